use Rattle.run_frame.proofs.Parts.{noted}
use Rattle.registration_desk.proofs.notes.note.Goals as goal

pub returns : goal.returns
returns g c = noted _ _ _ _ _ _ c.write_line.ensures
