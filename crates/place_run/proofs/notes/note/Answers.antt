use Rattle.run_frame.proofs.Parts.{noted}
use Rattle.place_run.proofs.notes.note.Goals as goal

pub returns-clause-line : goal.returns-clause-line
returns-clause-line g c = noted _ _ _ _ _ _ c.write_line.ensures.line
