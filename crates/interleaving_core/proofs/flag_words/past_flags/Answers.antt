use Rattle.std.proofs.Common.{◌≡◌, ℕ, List, false, length, nat_eq, slice_index_or, sym, ap, ◌∙◌, arith}
use Rattle.interleaving_core.specs.Flags.{flag_group}
use Rattle.interleaving_core.specs.Events.{is_raised_among}
use Rattle.interleaving_core.specs.Core.{entry}
use Rattle.interleaving_core.proofs.Flags.{stopped_at, passed_all}
use Rattle.interleaving_core.proofs.flag_words.past_flags.Goals as goal

pub returns-then-not-is_raised_among : goal.returns-then-not-is_raised_among
returns-then-not-is_raised_among c =
    let d = c.args.dict.now in
    let x = c.args.claim in
    let place = c.loop-place.place in
    let same = c.list-list.ensures in
    let long = ap length same in
    let test = c.loop-place-test.true in
    let from = c.loop-place.auto.place in
    let here : slice_index_or c.list-list.result.now place 0 ≡ entry d x.turn place =
    ap (λ (l : List ℕ). slice_index_or l place 0) same in
    let group : c.flag_group-group.result ≡ flag_group (entry d x.turn x.passed) =
    c.flag_group-group.ensures ∙ ap (λ (l : List ℕ). flag_group (slice_index_or l x.passed 0)) same
    in
    let its : c.flag_group.result ≡ flag_group (entry d x.turn place) =
    c.flag_group.ensures ∙ ap (λ (p : ℕ). flag_group p) here in
    let lowered : is_raised_among (flag_group (entry d x.turn x.passed)) c.args.word
    (entry d x.turn place) ≡ false =
    sym (λ k. is_raised_among (group k) c.args.word (here k))
    ∙ (sym c.is_raised_among.ensures ∙ c.if-not-is_raised_among.true) in
    (λ k. record {
      turn = x.turn;
      passed = place;
      looked = nat_eq (its k) (group k);
      met = false;
    })
    ∙ stopped_at d x.turn x.passed c.args.word place from (omega arith)
    c.loop-place.invariant.raised lowered

pub returns : goal.returns
returns c =
    let d = c.args.dict.now in
    let x = c.args.claim in
    let long = ap length c.list-list.ensures in
    let test = c.loop-place-test.false in
    let place = c.requires.place in
    passed_all d x.turn x.passed c.args.word (length c.list-list.result.now) (omega arith) long
    (λ n from l. c.loop-place.invariant.raised n from (omega arith))
