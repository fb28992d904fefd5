use Rattle.std.proofs.Common.{◌≡◌, length, map, sym, ap, ◌∙◌, arith, subst}
use Rattle.std.specs.List.{range_with_len}
use Rattle.std.proofs.lemmas.Result.{IfOk-weaker}
use Rattle.market.specs.Problems.{IsValid, problem}
use Rattle.case_maker.specs.MadeMarkets.{made_problem}
use Rattle.case_maker.specs.Words.{words_of}
use Rattle.case_maker.proofs.Making.{market-made, orders-few}
use Rattle.case_maker.proofs.Taking.{seeded-is}
use Rattle.case_maker.proofs.Validity.{made_problem-valid}
use Rattle.case_maker.proofs.make.make.Goals as goal
use Rattle.case_maker.proofs.make.make.Goals.{In_ok-ranks}

pub all_ranks-requires : goal.all_ranks-requires
all_ranks-requires c = λ kind lt.
    let few = orders-few c.args.sizes c.new-words.result c.draw_programmes.new.words
    c.in_ok-drawn.drawn.lists.items c.in_ok-drawn.drawn.keys.items c.in_ok-made.ensures.taken
    c.in_ok-drawn.ensures c.deref.result.now (c.deref.ensures.value ∙ c.in_ok-orders.ensures)
    kind lt in
    let fit = c.requires.candidates in
    omega arith

-- the parts are the market of the generator's words
whole : (c : In_ok-ranks)
    → problem c.args.sizes.types c.in_ok-made.made.items c.in_ok-drawn.drawn.lists.items
    c.in_ok-orders.orders.items c.in_ok-ranks.ranks.items
    ≡ made_problem c.args.sizes (words_of c.new-words.result)
whole c =
    market-made c.args.sizes c.new-words.result c.draw_programmes.new.words
    c.in_ok-drawn.drawn.lists.items c.in_ok-drawn.drawn.keys.items c.in_ok-made.ensures.taken
    c.in_ok-drawn.ensures c.in_ok-made.made.items c.in_ok-orders.orders.items
    c.in_ok-ranks.ranks.items c.in_ok-made.ensures.made c.in_ok-orders.ensures
    (c.in_ok-ranks.ensures
    ∙ ap (map (λ order. range_with_len 1 (length order))) c.deref.ensures.value)

pub build-requires : goal.build-requires
build-requires c =
    subst IsValid (sym (whole (goal.at.build-requires c).In_ok-ranks))
    (made_problem-valid c.args.sizes (words_of c.new-words.result) c.requires)

pub returns : goal.returns
returns c =
    let same = whole (goal.at.returns c).In_ok-ranks
    ∙ ap (λ g. made_problem c.args.sizes (words_of g))
    (c.new-words.ensures ∙ seeded-is c.args.seed) in
    IfOk-weaker c.build.result _ (λ m. m ≡ made_problem c.args.sizes _) (λ m is. is ∙ same)
    c.build.ensures
