use Rattle.std.proofs.Common.{◌%◌, ◌∙◌, arith, sym}
use Rattle.std.proofs.lemmas.List.{get_or-map, length-map}
use Rattle.rank_lists.specs.declared.keys.TheConstants.{INDEXES}
use Rattle.rank_lists.proofs.clean.are_distinct.Goals as goal

pub returns : goal.returns
returns c = λ yes i j below lt same.
    let keys = c.args.keys.now in
    let size = length-map keys (λ key. key % INDEXES) in
    let past = c.loop-key-test.false in
    c.loop-key.invariant.distinct i j below (omega arith)
    (sym (get_or-map (λ key. key % INDEXES) keys i 0 0 (omega arith)) ∙ same
    ∙ get_or-map (λ key. key % INDEXES) keys j 0 0 (omega arith))
