-- The access is one more of the log, and a device that tells gave what its slot holds.
use Rattle.std.proofs.Common.{rules, ℕ, Option, length, map, sym, ap, ◌∙◌, subst}
use Rattle.esa_params.specs.Sizes.{Sizes}
use Rattle.esa_params.specs.declared.slot.Op.TheVariants.{Read}
use Rattle.esa_device.specs.Logs.{Carried, last_given}
use Rattle.esa_device.specs.Recording.{IsReady, Recorded}
use Rattle.esa_device.proofs.LogLaws.{accesses-push, asks, backed-after_read, given-failed, given-read}
use Rattle.esa_device.proofs.recorder.Recorder.read.Goals as goal

pub invariant_of-self : goal.invariant_of-self
invariant_of-self g c = record {
  ready = search rules;
  counted = search rules;
  logged = ap (map (λ (entry : Carried). entry.access)) c.after-self-inside.ensures
      ∙ accesses-push c.self.inside.log.entries c.self.inside.trace.items c.args.access c.read-done.result c.read-done.new.out c.self.invariant.logged
      ∙ sym c.push_reserved.ensures.items;
  backed = backed-after_read c.self.inside.plan c.args.self.now.plan (g.V.Device.told c.self.inside.device) (g.V.Device.told c.read-done.new.self)
      c.self.inside.log.entries c.after-self-inside.result.entries c.args.access c.number-number.result (length c.args.out.now) c.read-done.result c.read-done.new.out
      (ap (λ (r : Recorded g.row.V.Denot). r.plan) c.self.view_is) c.after-self-inside.ensures c.requires.named c.number-number.ensures.value
      c.read-done.ensures.told c.read-done.ensures.bytes c.self.invariant.backed;
  gave = c.self.invariant.gave
      ∙ sym (ap last_given c.after-self-inside.ensures
      ∙ given-failed c.self.inside.log.entries c.args.access c.read-done.result c.in_err-done.field-0.0 c.read-done.new.out c.in_err-done.was
      (asks Read c.args.self.now.plan c.args.access (length c.args.out.now) c.requires.named));
  fits = search rules;
}

pub invariant_of-self-2 : goal.invariant_of-self-2
invariant_of-self-2 g c = record {
  ready = subst (λ (room : ℕ). IsReady c.self.inside.plan (g.V.Device.laid c.read-done.new.self) room) (sym c.keep-self-inside.ensures.length)
      (subst (λ (laid : Option Sizes). IsReady c.self.inside.plan laid (length c.self.inside.block.items)) (sym c.read-done.ensures.laid) c.self.invariant.ready);
  counted = search rules;
  logged = ap (map (λ (entry : Carried). entry.access)) c.after-self-inside.ensures
      ∙ accesses-push c.self.inside.log.entries c.self.inside.trace.items c.args.access c.read-done.result c.read-done.new.out c.self.invariant.logged
      ∙ sym c.push_reserved.ensures.items;
  backed = backed-after_read c.self.inside.plan c.args.self.now.plan (g.V.Device.told c.self.inside.device) (g.V.Device.told c.read-done.new.self)
      c.self.inside.log.entries c.after-self-inside.result.entries c.args.access c.number-number.result (length c.args.out.now) c.read-done.result c.read-done.new.out
      (ap (λ (r : Recorded g.row.V.Denot). r.plan) c.self.view_is) c.after-self-inside.ensures c.requires.named c.number-number.ensures.value
      c.read-done.ensures.told c.read-done.ensures.bytes c.self.invariant.backed;
  gave = c.keep-self-inside.ensures.front
      ∙ sym (ap last_given c.after-self-inside.ensures
      ∙ given-read c.self.inside.log.entries c.args.access c.read-done.result c.in_ok-done.field-0 c.read-done.new.out c.in_ok-done.was
      (asks Read c.args.self.now.plan c.args.access (length c.args.out.now) c.requires.named));
  fits = c.keep-self-inside.ensures.fits;
}
