use Rattle.std.proofs.Common.{◌≡◌, ℕ, ◌+◌, ◌<◌, ◌∙◌, arith, rules, ap, sym, subst, length, List, set, replicate}
use Rattle.std.specs.Prelude.{◌==◌}
use Rattle.std.proofs.lemmas.List.{get_or_read}
use Rattle.market.specs.declared.programme.Prog.{Prog}
use Rattle.market.specs.Problems.{Problem, IsValid, kind_in, kind_of}
use Rattle.market.proofs.Members.{IsCounts, IsCounts-none, IsCounts-more, IsLocalsUpto-more, IsLocals-all, count_le}
use Rattle.market.proofs.build.local_numbers.Goals as goal

-- the types of a valid problem's programmes
kinds_fit : (m : Problem) → IsValid m → (programmes : List Prog) → programmes ≡ m.programmes
    → (p : ℕ) → p < length programmes → kind_in programmes p < m.types
unfolding kind_of
kinds_fit m v programmes e p l =
    let n = ap (λ (xs : List Prog). length xs) e in
    subst (λ (xs : List Prog). kind_in xs p < m.types) (sym e) (v.kinds p (omega arith))

pub loop-programme-init : goal.loop-programme-init
loop-programme-init c = record {
  counts = IsCounts-none c.programmes-programmes.result.now c.args.parts.now.types
      c.in_ok-counts.counts.items
      (let e : c.in_ok-counts.counts.items ≡ replicate c.type_count.result 0 = search rules in
      e ∙ ap (λ (n : ℕ). replicate n 0) c.type_count.ensures.count);
  locals = record {
    count = ap (λ (xs : List ℕ). length xs) c.new-locals.ensures.items;
    each = λ p l. absurd (omega arith);
  };
}

pub index-requires : goal.index-requires
index-requires c =
    let l = kinds_fit c.args.parts.now c.programmes-programmes.ensures.valid
    c.programmes-programmes.result.now c.programmes-programmes.ensures.programmes
    c.loop-programme.programme-index c.loop-programme-test.true in
    let n = c.loop-programme.invariant.counts.count in
    omega arith

pub index_mut-requires : goal.index_mut-requires
index_mut-requires c =
    let l = kinds_fit c.args.parts.now c.programmes-programmes.ensures.valid
    c.programmes-programmes.result.now c.programmes-programmes.ensures.programmes
    c.loop-programme.programme-index c.loop-programme-test.true in
    let n = c.loop-programme.invariant.counts.count in
    omega arith

pub overflow_add-index_mut : goal.overflow_add-index_mut
overflow_add-index_mut c =
    let ps = c.programmes-programmes.result.now in
    let k = c.loop-programme.programme-index in
    let counts = c.loop-programme.counts.items in
    let l = kinds_fit c.args.parts.now c.programmes-programmes.ensures.valid ps
    c.programmes-programmes.ensures.programmes k c.loop-programme-test.true in
    let n = c.loop-programme.invariant.counts.count in
    let e = c.loop-programme.invariant.counts.each (kind_in ps k) l in
    let b = count_le (λ q. kind_in ps q == kind_in ps k) k in
    let few = c.programmes-programmes.ensures.valid.programmes in
    let same = ap (λ (xs : List Prog). length xs) c.programmes-programmes.ensures.programmes in
    let v = get_or_read counts (kind_in ps k) c.index_mut.result.now (omega arith)
    c.index_mut.ensures.value 0 in
    omega arith

pub loop-programme-preserved : goal.loop-programme-preserved
loop-programme-preserved c =
    let ps = c.programmes-programmes.result.now in
    let types = c.args.parts.now.types in
    let k = c.loop-programme.programme-index in
    let counts = c.loop-programme.counts.items in
    let l = kinds_fit c.args.parts.now c.programmes-programmes.ensures.valid ps
    c.programmes-programmes.ensures.programmes k c.loop-programme-test.true in
    let n = c.loop-programme.invariant.counts.count in
    let v = get_or_read counts (kind_in ps k) c.index_mut.result.now (omega arith)
    c.index_mut.ensures.value 0 in
    let x = get_or_read counts (kind_in ps k) c.index.result.now (omega arith) c.index.ensures 0 in
    record {
      counts = subst (λ (m : ℕ). IsCounts ps types (set counts (kind_in ps k) (m + 1)) (k + 1))
          (sym v) (IsCounts-more ps types k counts l c.loop-programme.invariant.counts);
      locals = IsLocalsUpto-more ps types k c.index.result.now counts c.loop-programme.locals.items
          c.push.new.self.items l c.loop-programme.invariant.counts
          c.loop-programme.invariant.locals x c.in_ok-push.ensures.items;
    }

pub returns : goal.returns
returns c =
    IsLocals-all c.args.parts.now c.programmes-programmes.result.now c.loop-programme.locals.items
    c.loop-programme.programme-index c.programmes-programmes.ensures.programmes (omega arith)
    c.loop-programme.invariant.locals
