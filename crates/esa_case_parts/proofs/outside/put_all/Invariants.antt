-- The files so far and those that are left make up what is laid in the end.
use Rattle.std.proofs.Common.{◌≡◌, drop}
use Rattle.esa_case_parts.specs.Laid.{laid}
use Rattle.esa_case_parts.proofs.outside.put_all.Given as goal

abbrev pub invariant-loop-file : goal.invariant-loop-file
invariant-loop-file l = record {
  files : laid l.cabinet.files (drop l.file-index l.files) ≡ laid l.initial.cabinet.files l.files;
  calls : l.cabinet.calls ≡ l.initial.cabinet.calls;
  heard : l.cabinet.heard ≡ l.initial.cabinet.heard;
}
