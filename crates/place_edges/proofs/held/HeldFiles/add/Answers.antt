use Rattle.std.proofs.Common.{arith}
use Rattle.std.specs.String.{string_bytes}
use Rattle.place_edges.proofs.Entries.{held-cons}
use Rattle.place_edges.proofs.held.HeldFiles.add.Goals as goal

pub returns-clause-held : goal.returns-clause-held
returns-clause-held c =
    held-cons (string_bytes c.args.name, c.args.bytes.items) c.self.inside.entries.items
    c.insert.new.self.items c.self.inside.place c.behind_one_more-self-inside.result
    c.args.self.now
    (omega arith) c.in_ok-insert.ensures.items c.behind_one_more-self-inside.ensures c.self.view_is
