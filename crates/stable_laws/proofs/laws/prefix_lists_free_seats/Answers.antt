use Rattle.stable_laws.proofs.FreeSeats.{shorter_lists_free_seats}
use Rattle.stable_laws.proofs.laws.prefix_lists_free_seats.Goals as goal

pub returns : goal.returns
returns c = shorter_lists_free_seats c.args.older.now c.args.newer.now c.requires
