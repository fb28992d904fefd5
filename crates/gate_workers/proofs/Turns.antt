-- A worker's way from one draw to the next. Each turn that it draws is a later one, so it draws no
-- more numbers than there are turns.
use Rattle.std.proofs.Common.{◌≡◌, ℕ, suc, ◌+◌, ◌-◌, ◌<◌, ◌≤◌, true, List, [], ◌∷◌, ◌++◌, length, Some, None, refl, sym, ap, ◌∙◌, arith}
use Rattle.std.specs.Prelude.{slice_get}
use Rattle.std.proofs.lemmas.Bool.{lt-ltb}
use Rattle.std.proofs.lemmas.List.{length-append}
use Rattle.interleaving_core.specs.declared.parts.OwnTurn.{OwnTurn}
use Rattle.interleaving_core.specs.Core.{View, turn_count}
use Rattle.interleaving_core.specs.Events.{after_claim_if, with_place}
use Rattle.word_rule.specs.Views.{SeatKnows}
use Rattle.word_rule.specs.Rounds.{knows, Stays}
use Rattle.word_rule.specs.declared.seat.WorkSeat.{WorkSeat}
use Rattle.claim_words.specs.Claimant.{IsClaim, IsPost}
use Rattle.gate_workers.specs.Workers.{HasRead, HasTried, HasCome}
use Rattle.gate_workers.specs.declared.gate.GatePoint.TheVariants.{Posted}

-- turns that rise from lo on and stay below hi are at most as many as lie between
short : (own : List OwnTurn) (lo hi : ℕ)
    → ((i : ℕ) (x : OwnTurn) → slice_get own i ≡ Some x → lo ≤ x.turn)
    → ((i : ℕ) (x : OwnTurn) → slice_get own i ≡ Some x → x.turn < hi)
    → ((i j : ℕ) (x y : OwnTurn) → slice_get own i ≡ Some x → slice_get own j ≡ Some y → i < j
    → x.turn < y.turn) → length own ≤ hi - lo
short [] lo hi from below rise = omega arith
short (x ∷ xs) lo hi from below rise =
    let at = from 0 x refl in
    let end = below 0 x refl in
    let rest = short xs (x.turn + 1) hi
    (λ i y e. let l = rise 0 (suc i) x y refl e (omega arith) in omega arith)
    (λ i y e. below (suc i) y e)
    (λ i j y z e f l. rise (suc i) (suc j) y z e f (omega arith)) in
    omega arith

-- a post leaves as many own turns
length-with_place : (own : List OwnTurn) (j : ℕ) → length (with_place own j) ≡ length own
length-with_place [] j = refl
length-with_place (x ∷ []) j = refl
length-with_place (x ∷ y ∷ ys) j = ap suc (length-with_place (y ∷ ys) j)

-- a post places the last own turn
placed_last : (xs : List OwnTurn) (x : OwnTurn) (j : ℕ)
    → with_place (xs ++ x ∷ []) j ≡ xs ++ record { turn = x.turn; place = Some j } ∷ []
placed_last [] x j = refl
placed_last (y ∷ []) x j = refl
placed_last (y ∷ z ∷ zs) x j = ap (λ l. y ∷ l) (placed_last (z ∷ zs) x j)

-- a turn that was drawn, read and posted is the last own one, and is posted
pub has_posted : (old drawn read posted : WorkSeat) (turn place : ℕ)
    → IsClaim old drawn (Some turn) → HasRead drawn read → IsPost read posted place
    → HasCome (knows posted) (Posted turn)
has_posted old drawn read posted turn place draw reads posts =
    let said = draw.answered in
    let own : List OwnTurn = (knows old).core.own in
    let mine : OwnTurn = record { turn = draw.found; place = None } in
    let view : (knows drawn).core ≡ after_claim_if true (knows old).core draw.found =
    ap (λ (x : SeatKnows). x.core) draw.view
    ∙ ap (λ b. after_claim_if b (knows old).core draw.found)
    (lt-ltb draw.found (turn_count (knows old).dict) said.1) in
    let before : (knows read).core.own ≡ own ++ mine ∷ [] =
    ap (λ (v : View). v.own) reads.moved.core ∙ ap (λ (v : View). v.own) view in (
      ap (λ (x : SeatKnows). x.core.claim) posts.view,
      ap (λ (x : SeatKnows). x.core.owes) posts.view,
      (
        own,
        place,
        ap (λ (x : SeatKnows). x.core.own) posts.view
            ∙ (ap (λ (l : List OwnTurn). with_place l place) before
            ∙ (placed_last own mine place
            ∙ ap (λ (k : ℕ). own ++ record { turn = k; place = Some place } ∷ []) (sym said.0))),
      ),
    )

-- the seat's round, number and share stay over two calls
pub stays_on : {a b c : WorkSeat} → Stays a b → Stays b c → Stays a c
stays_on p q =
    record {
      table = q.table ∙ p.table;
      place = q.place ∙ p.place;
      dict = q.dict ∙ p.dict;
      workers = q.workers ∙ p.workers;
      number = q.number ∙ p.number;
      share = q.share ∙ p.share;
    }

-- from one draw to the next: one own turn more, one try on the mark more, and done as before
pub record HasTurned (old new : WorkSeat) : Type 0 where
  pub room : length (knows old).core.own < turn_count (knows old).dict
  pub own : length (knows new).core.own ≡ length (knows old).core.own + 1
  pub tries : (knows new).tries ≡ (knows old).tries + 1
  pub done : (knows new).core.done ≡ (knows old).core.done
  pub stays : Stays old new

-- it is so where a seat drew a turn, went along its list, posted it and tried the mark
pub one_turn : (old drawn read posted new : WorkSeat) (turn place : ℕ)
    → Stays old drawn × IsClaim old drawn (Some turn) → Stays drawn read × HasRead drawn read
    → Stays read posted × IsPost read posted place → Stays posted new × HasTried posted new
    → HasTurned old new
one_turn old drawn read posted new turn place a b c e =
    let draw = a.1 in
    let reads = b.1 in
    let posts = c.1 in
    let tried = e.1 in
    let said = draw.answered in
    let view : (knows drawn).core ≡ after_claim_if true (knows old).core draw.found =
    ap (λ (x : SeatKnows). x.core) draw.view
    ∙ ap (λ b. after_claim_if b (knows old).core draw.found)
    (lt-ltb draw.found (turn_count (knows old).dict) said.1) in
    let more = length-append (knows old).core.own (record { turn = draw.found; place = None } ∷ [])
    in
    let few = short (knows old).core.own 0 draw.found (λ i x e. omega arith) draw.earlier.below
    draw.earlier.rise in
    let inside = said.1 in
    record {
      room = omega arith;
      own =
          let own = ap (λ (v : View). length v.own) view in
          let read_own = ap (λ (v : View). length v.own) reads.moved.core in
          let posted_own = ap (λ (x : SeatKnows). length x.core.own) posts.view
          ∙ length-with_place (knows read).core.own place in
          let tried_own = ap (λ (l : List OwnTurn). length l) tried.own in
          omega arith;
      tries =
          let drawn_tries = ap (λ (x : SeatKnows). x.tries) draw.view in
          let read_tries = reads.moved.tries in
          let posted_tries = ap (λ (x : SeatKnows). x.tries) posts.view in
          let one_more = tried.tries in
          omega arith;
      done = tried.done
          ∙ (ap (λ (x : SeatKnows). x.core.done) posts.view
          ∙ (ap (λ (v : View). v.done) reads.moved.core ∙ ap (λ (v : View). v.done) view));
      stays = stays_on (stays_on (stays_on a.0 b.0) c.0) e.0;
    }
