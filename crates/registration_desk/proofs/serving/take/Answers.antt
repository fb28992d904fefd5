use Rattle.std.proofs.Common.{rules}
use Rattle.registration_desk.proofs.Takes.{take_allowed}
use Rattle.registration_desk.proofs.serving.take.Goals as goal

pub fetch_or-found-requires : goal.fetch_or-found-requires
fetch_or-found-requires c = (
  c.requires.of_desk,
  search rules,
  take_allowed c.args.desk.now.table.shared.key _ _ _ c.requires.idle.live c.requires.left
      c.requires.idle.free,
)
