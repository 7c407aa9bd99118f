use Rattle.std.proofs.Common.{◌&&◌, leb, length, get_or, subst, sym}
use Rattle.std.proofs.lemmas.Bool.{and_parts}
use Rattle.std.proofs.lemmas.Str.{IsUtf8-from_ascii}
use Rattle.std.specs.Str.{IsUtf8}
use Rattle.pattern.specs.Names.{is_lower, all_plain}
use Rattle.pattern.proofs.Plain.{all_plain_is_ascii}
use Rattle.pattern.proofs.names.calls.ShortNameDisplay.fmt.Goals as goal

-- a name's letters are text
pub unreachable-requires : goal.unreachable-requires
unreachable-requires g c =
    let name = c.args.self.now in
    let bs = name.letters in
    let plain = (and_parts (leb (length bs) 8) (all_plain bs) (and_parts (is_lower (get_or bs 0 0)) (leb (length bs) 8 && all_plain bs) name.formed).1).1 in
    c.in_default.ensures.cases.0 (subst IsUtf8 (sym c.as_slice.ensures.value) (IsUtf8-from_ascii bs (all_plain_is_ascii bs plain)))
