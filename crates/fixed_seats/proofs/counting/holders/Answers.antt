use Rattle.std.proofs.Common.{◌≡◌, ◌+◌, ℕ, length, Vec, Global, sym, ap, ◌∙◌, subst, arith, take, set}
use Rattle.std.proofs.lemmas.List.{length-take-le, get_or_read}
use Rattle.std.proofs.lemmas.List.Sums.{count_by-le-length}
use Rattle.market.specs.Counting.{is_programme}
use Rattle.fixed_seats.proofs.HolderCounts.{HasCounted, HasCounted-skip, HasCounted-more, HasCounted-all}
use Rattle.fixed_seats.proofs.counting.holders.Goals as goal
use Rattle.fixed_seats.proofs.counting.holders.Goals.{in-Some, in_default}

pub overflow_add-index_mut : goal.overflow_add-index_mut
overflow_add-index_mut c =
    let held = c.args.held.now in
    let counts = c.loop-holds.counts.items in
    let p = c.in-Some.programme in
    let n = c.loop-holds.holds-index in
    let within = c.requires.programmes n p c.in-Some.is in
    let size = c.loop-holds.invariant.count in
    let read = get_or_read counts p c.index_mut.result.now (omega arith) c.index_mut.ensures.value 0
    in
    let count = c.loop-holds.invariant.each p within in
    let most = count_by-le-length (is_programme p) (take n held) in
    let first = length-take-le n held (omega arith) in
    let few = c.requires.few in
    omega arith

pub loop-holds-preserved : goal.loop-holds-preserved
loop-holds-preserved c =
    let held = c.args.held.now in
    let programmes = c.args.programmes in
    let counts = c.loop-holds.counts.items in
    let n = c.loop-holds.holds-index in
    let size = c.loop-holds.invariant.count in
    elim c.match-holds.branch [
      | in-Some w ↦
          let p = w.in-Some.programme in
          let within = c.requires.programmes n p w.in-Some.is in
          let read = get_or_read counts p w.index_mut.result.now (omega arith)
          w.index_mut.ensures.value 0 in
          HasCounted-more held programmes counts c.match-holds.counts.items n p (omega arith) within
          w.in-Some.is c.loop-holds.invariant
          (ap (λ (v : Vec ℕ Global). v.items) w.counts-is
          ∙ ap (λ (x : ℕ). set counts p (x + 1)) read)
      | in_default w ↦ subst (λ (v : Vec ℕ Global). HasCounted held programmes v.items (n + 1))
          (sym w.counts-is)
          (HasCounted-skip held programmes counts n (omega arith) w.in_default.is
          c.loop-holds.invariant)
    ]

pub returns : goal.returns
returns c =
    let held = c.args.held.now in
    let n = c.loop-holds.holds-index in
    let all : n ≡ length held = omega arith in
    HasCounted-all held c.args.programmes c.loop-holds.counts.items
    (subst (λ (k : ℕ). HasCounted held c.args.programmes c.loop-holds.counts.items k) all
    c.loop-holds.invariant)
