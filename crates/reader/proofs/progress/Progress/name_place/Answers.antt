use Rattle.reader.proofs.Declared.{name_fits}
use Rattle.reader.proofs.progress.Progress.name_place.Goals as goal

pub unreachable-requires-in_default-add_name : goal.unreachable-requires-in_default-add_name
unreachable-requires-in_default-add_name c = name_fits c.args.self.now (record { name = c.args.name; place = c.in-Ok.place }) _ c.requires.0 c.requires.1 c.in_default-add_name.ensures.1
