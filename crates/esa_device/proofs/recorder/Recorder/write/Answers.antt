-- The access is one more of the log, and a device that tells has what was written in its slot.
use Rattle.std.proofs.Common.{rules, ◌≡◌, ℕ, ◌<◌, List, Option, Some, length, sym, ap, ◌∙◌, subst, map}
use Rattle.std.specs.Prelude.{OnOk, OnErr, slice_set}
use Rattle.esa_params.specs.Sizes.{Sizes}
use Rattle.esa_params.specs.declared.slot.Op.TheVariants.{Write}
use Rattle.esa_device.specs.Blocks.{ChangesBlock}
use Rattle.esa_device.specs.Logs.{Carried, IsBacked, last_given}
use Rattle.esa_device.specs.Recording.{Names, Recorded, number_in}
use Rattle.esa_device.proofs.LogLaws.{accesses-push, asks, backed-write, given-write}
use Rattle.esa_device.proofs.recorder.Recorder.write.Goals as goal

pub invariant_of-self : goal.invariant_of-self
invariant_of-self g c =
    let plan : c.self.inside.plan ≡ c.args.self.now.plan = ap (λ (r : Recorded g.row.V.Denot). r.plan) c.self.view_is in
    let number : c.number-number.result ≡ number_in c.self.inside.plan c.args.access =
    c.number-number.ensures.value ∙ ap (λ (plan : Option Sizes). number_in plan c.args.access) (sym plan) in
    let log = c.after-self-inside.ensures in
    record {
      ready = search rules;
      counted = search rules;
      logged = ap (map (λ (entry : Carried). entry.access)) log ∙ accesses-push c.self.inside.log.entries c.self.inside.trace.items c.args.access c.write-done.result c.args.bytes.now c.self.invariant.logged ∙ sym c.push_reserved.ensures.items;
      backed = subst (λ (entries : List Carried). IsBacked c.self.inside.plan (g.V.Device.told c.write-done.new.self) entries) (sym log)
          (backed-write c.self.inside.plan (g.V.Device.told c.self.inside.device) (g.V.Device.told c.write-done.new.self) c.self.inside.log.entries c.args.access (length c.args.bytes.now) c.write-done.result c.args.bytes.now
          (subst (λ (plan : Option Sizes). Names Write plan c.args.access (length c.args.bytes.now)) (sym plan) c.requires.named)
          (λ blocks told. subst (λ (k : ℕ). k < length blocks) number (c.write-done.ensures.there blocks told))
          (λ blocks told. subst (λ (k : ℕ). OnOk c.write-done.result (g.V.Device.told c.write-done.new.self ≡ Some (slice_set blocks k c.args.bytes.now))) number (c.write-done.ensures.written blocks told))
          (λ blocks told. subst (λ (k : ℕ). OnErr c.write-done.result (ChangesBlock blocks k (g.V.Device.told c.write-done.new.self))) number (c.write-done.ensures.failed blocks told))
          c.write-done.ensures.silent c.self.invariant.backed);
      gave = c.self.invariant.gave
          ∙ sym (ap last_given log ∙ given-write c.self.inside.log.entries c.args.access c.write-done.result c.args.bytes.now (asks Write c.args.self.now.plan c.args.access (length c.args.bytes.now) c.requires.named));
      fits = search rules;
    }
