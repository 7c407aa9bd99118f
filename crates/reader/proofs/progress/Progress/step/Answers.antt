use Rattle.std.proofs.Common.{subst, arith}
use Rattle.std.proofs.lemmas.List.{length-map}
use Rattle.description.specs.Outlines.{part_of}
use Rattle.reader.specs.States.{awaits_of, draft_of, stands}
use Rattle.reader.specs.Soundness.{Sound}
use Rattle.reader.proofs.Sounds.{room_at_opening}
use Rattle.reader.proofs.progress.Progress.step.Goals as goal

pub opening-requires : goal.opening-requires
opening-requires c =
    let d = c.in-Opening.draft in
    let sound = subst (λ e. Sound (stands c.args.self.now (awaits_of e))) c.in-Opening.is c.requires in
    omega (arith, room_at_opening _ (draft_of d) sound.1, length-map d.items part_of)
