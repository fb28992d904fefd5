use Rattle.std.proofs.Common.{◌≡◌, ℕ, ◌+◌, ◌%◌, min, Bool, cond, List, [], ◌∷◌, ◌++◌, map, sym, ap, ◌∙◌, arith, zero-add}
use Rattle.std.specs.List.{range_with_len}
use Rattle.std.proofs.lemmas.List.FromFn.{map-range_with_len_more}
use Rattle.case_maker.specs.Draws.{without_repeats}
use Rattle.case_maker.specs.Words.{Words, generator_after, words_of}
use Rattle.case_maker.proofs.Repeats.{stands, with_entry, without_repeats-more}
use Rattle.case_maker.proofs.Taking.{after_none, taken-rest, taken-word}
use Rattle.case_maker.proofs.draws.draw_list.Goals as goal
use Rattle.case_maker.proofs.draws.draw_list.Goals.{then-not-contains+in_ok-push, else-not-contains}

-- the first so many entries that are drawn
abbrev entries : ℕ → Words → ℕ → List ℕ
entries programmes words n = map (λ n. words (1 + n) % programmes) (range_with_len 0 n)

-- one entry more
list-next : (programmes : ℕ) (words : Words) (n entry : ℕ) (found : Bool) (old new : List ℕ)
    → old ≡ without_repeats (entries programmes words n) → entry ≡ words (1 + n) % programmes
    → found ≡ stands entry old → new ≡ cond found old (old ++ entry ∷ [])
    → new ≡ without_repeats (entries programmes words (n + 1))
list-next programmes words n entry found old new so_far entry_is found_is more =
    more ∙ ap (λ b. cond b old (old ++ entry ∷ [])) found_is
    ∙ ap (with_entry entry) so_far
    ∙ sym (without_repeats-more (entries programmes words n) entry)
    ∙ ap (λ e. without_repeats (entries programmes words n ++ e ∷ [])) entry_is
    ∙ ap without_repeats
    (sym (map-range_with_len_more (λ n. words (1 + n) % programmes) 0 n n (zero-add n)))

pub loop-draw-init : goal.loop-draw-init
loop-draw-init c =
    let start = c.args.words.now in
    record {
      list = c.in_ok-list.ensures.items;
      taken = taken-rest 0 start start c.next_word.new.self c.next_word.result
          (sym (after_none start)) c.next_word.ensures;
    }

pub loop-draw-preserved : goal.loop-draw-preserved
loop-draw-preserved c =
    let start = c.args.words.now in
    let n = c.loop-draw._draw in
    let old = c.loop-draw.list.items in
    let programmes = c.args.programmes in
    let entry : ℕ = c.next_word-in-loop-draw.result % programmes in
    let more : c.if-not-contains.list.items ≡ cond c.contains.result old (old ++ entry ∷ []) =
    elim c.if-not-contains.branch [
      | then-not-contains+in_ok-push w ↦ ap (λ v. v.items) w.list-is ∙ w.in_ok-push.ensures.items
          ∙ ap (λ b. cond b old (old ++ entry ∷ [])) (sym w.if-not-contains.true)
      | else-not-contains w ↦ ap (λ v. v.items) w.list-is
          ∙ ap (λ b. cond b old (old ++ entry ∷ [])) (sym w.if-not-contains.false)
    ] in
    let word = taken-word (1 + n) start c.loop-draw.words c.next_word-in-loop-draw.new.self
    c.next_word-in-loop-draw.result c.loop-draw.invariant.taken c.next_word-in-loop-draw.ensures in
    record {
      list = list-next programmes (words_of start) n entry c.contains.result old
          c.if-not-contains.list.items c.loop-draw.invariant.list
          (ap (λ w. w % programmes) word)
          (c.contains.ensures.value ∙ ap (stands entry) c.deref.ensures.value)
          more;
      taken = taken-rest (1 + n) start c.loop-draw.words c.next_word-in-loop-draw.new.self
          c.next_word-in-loop-draw.result c.loop-draw.invariant.taken
          c.next_word-in-loop-draw.ensures
          ∙ (let same : (1 + n) + 1 ≡ 1 + (n + 1) = omega arith in
          ap (λ k. generator_after k start) same);
    }

pub returns-clause-list : goal.returns-clause-list
returns-clause-list c =
    let start = c.args.words.now in
    let word = taken-word 0 start start c.next_word.new.self c.next_word.result
    (sym (after_none start)) c.next_word.ensures in
    let all : c.loop-draw._draw ≡ c.min-draws.result = omega arith in
    let count = all ∙ c.min-draws.ensures ∙ ap (λ w. min c.args.programmes (w % 25)) word in
    c.from_vec.ensures ∙ c.loop-draw.invariant.list
    ∙ ap (λ n. without_repeats (entries c.args.programmes (words_of start) n)) count

pub returns-clause-taken : goal.returns-clause-taken
returns-clause-taken c =
    let start = c.args.words.now in
    let word = taken-word 0 start start c.next_word.new.self c.next_word.result
    (sym (after_none start)) c.next_word.ensures in
    let all : c.loop-draw._draw ≡ c.min-draws.result = omega arith in
    let count = all ∙ c.min-draws.ensures ∙ ap (λ w. min c.args.programmes (w % 25)) word in
    c.loop-draw.invariant.taken ∙ ap (λ n. generator_after (1 + n) start) count
