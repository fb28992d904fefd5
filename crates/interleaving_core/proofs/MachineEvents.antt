-- What the machine does at each event is what the event leads to, outcome by outcome.
use Rattle.std.proofs.Common.{◌≡◌, ℕ, List, ◌+◌, ◌<◌, ◌≤◌, Bool, true, false, None, length, nat_lt, nat_le, get_or, refl, sym, ap, ◌∙◌, subst, arith, vec_capacity}
use Rattle.std.specs.Vec.{with_item}
use Rattle.std.proofs.lemmas.Bool.{lt-ltb, le-ltb}
use Rattle.std.proofs.lemmas.Option.{slice_get_read, get_or_from_slice_get}
use Rattle.interleaving_core.specs.declared.parts.Cell.{Cell}
use Rattle.interleaving_core.specs.declared.parts.Cell.TheVariants.{Empty, Posted, Committed}
use Rattle.interleaving_core.specs.declared.parts.Phase.{Phase}
use Rattle.interleaving_core.specs.declared.parts.Phase.TheVariants.{Idle, Halted, Scan, Seated, Raised}
use Rattle.interleaving_core.specs.declared.events.CoreEvent.TheVariants.{Claim, Flags, Read, Post, Take, Look, Weigh, Seat, Raise, Seal, Release}
use Rattle.interleaving_core.specs.declared.events.Told.{Told}
use Rattle.interleaving_core.specs.declared.events.Told.TheVariants as tells
use Rattle.interleaving_core.specs.declared.team.Worker.{Worker}
use Rattle.interleaving_core.specs.declared.state.CoreState.TheInside.{Inside}
use Rattle.interleaving_core.specs.Flags.{flag_group, with_flag}
use Rattle.interleaving_core.specs.Core.{turn_count, entry, quota_of, seats_of, is_open, cell_at, hold_at}
use Rattle.interleaving_core.specs.Events.{Claims, ReadsFlags, Reads, Posts, Takes, Looks, Weighs, Seats, Raises, Seals, Releases, with_hold, after_claim_if, after_flags, after_read, after_post, after_take, phase_after_look, phase_after_weigh, is_last_seat, told_of_claim, told_of_read, told_of_take, told_of_look, told_of_weigh}
use Rattle.interleaving_core.specs.Machines.{view_of, machine_of, IsKept}
use Rattle.interleaving_core.proofs.Machines.{MayAct, Acted, acted}

-- what a reading of a seat count finds
opens : (s : Inside) (k j : ℕ) (open' found : Bool) (seats : List ℕ) → found ≡ open'
    → found ≡ nat_lt (get_or seats (entry s.dict k j) 0) (quota_of s.dict (entry s.dict k j))
    → seats ≡ s.seats.items
    → open' ≡ is_open s.dict (machine_of s).core (entry s.dict k j)
opens s k j open' found seats was test here =
    sym was ∙ test
    ∙ ap (λ (l : List ℕ). nat_lt (get_or l (entry s.dict k j) 0)
    (quota_of s.dict (entry s.dict k j))) here

-- the cell read at a place
cell_is : (s : Inside) (c : ℕ) (cell : Cell) → IsKept s → c < turn_count s.dict
    → cell ≡ get_or s.cells.items c cell
    → cell ≡ cell_at (machine_of s).core c
cell_is s c cell k l at =
    let sound = k.sound in
    let count = sound.cells.each_turn in
    let got = slice_get_read s.cells.items (length s.cells.items) c cell refl (omega arith) at in
    sym (get_or_from_slice_get s.cells.items c cell Empty got)

not_posted : (cell : Cell) → ((j : ℕ) → cell ≡ Posted j → ⊥) → (phase_after_look cell ≡ Halted)
    × (told_of_look cell ≡ tells.Nothing)
not_posted Empty none = (refl, refl)
not_posted (Posted j) none = absurd (none j refl)
not_posted (Committed j) none = (refl, refl)

module _ (s : Inside) (i : ℕ) (w u : Worker) (room : vec_capacity u.own ≡ vec_capacity w.own) where
  -- where a turn is left, a draw claims the number drawn
  pub draws_turn : MayAct s i w Claims → s.claim_number < turn_count s.dict
      → view_of u ≡ after_claim_if true (view_of w) s.claim_number
      → Acted s record s {
        claim_number = s.claim_number + 1;
        workers = with_item s.workers i u;
      } i Claim (tells.Claimed s.claim_number)
  draws_turn x left is =
      let k : ℕ = s.claim_number in
      let test = lt-ltb k (turn_count s.dict) left in
      acted s _ i w u Claims _ x (ap (λ b. told_of_claim b k) (sym test))
      (is ∙ ap (λ b. after_claim_if b (view_of w) k) (sym test)) room refl refl refl

  -- where no turn is left, a draw makes the worker done
  pub finds_no_turn : MayAct s i w Claims → turn_count s.dict ≤ s.claim_number
      → view_of u ≡ after_claim_if false (view_of w) s.claim_number
      → Acted s record s {
        claim_number = s.claim_number + 1;
        workers = with_item s.workers i u;
      } i Claim tells.NoTurn
  finds_no_turn x none is =
      let k : ℕ = s.claim_number in
      let test = le-ltb k (turn_count s.dict) none in
      acted s _ i w u Claims _ x (ap (λ b. told_of_claim b k) (sym test))
      (is ∙ ap (λ b. after_claim_if b (view_of w) k) (sym test)) room refl refl refl

  -- by the seat count that was read, the entry is met or passed
  pub reads_entry : (k j : ℕ) (open' found : Bool) (seats : List ℕ) → MayAct s i w (Reads k j)
      → found ≡ open'
      → found ≡ nat_lt (get_or seats (entry s.dict k j) 0) (quota_of s.dict (entry s.dict k j))
      → seats ≡ s.seats.items → view_of u ≡ after_read open' (view_of w) k j
      → Acted s record s { workers = with_item s.workers i u } i Read (told_of_read open')
  reads_entry k j open' found seats x was test here is =
      let same = opens s k j open' found seats was test here in
      acted s _ i w u (Reads k j) _ x (ap told_of_read same)
      (is ∙ ap (λ b. after_read b (view_of w) k j) same) room refl refl refl

  -- a look at a word of flags passes the entries whose flags are raised in it
  pub reads_flags : (k j word : ℕ) → MayAct s i w (ReadsFlags k j)
      → word ≡ get_or s.flags.items (flag_group (entry s.dict k j)) 0
      → view_of u ≡ after_flags s.dict (view_of w) k j word
      → Acted s record s { workers = with_item s.workers i u } i Flags (tells.Flags word)
  reads_flags k j word x found is =
      acted s _ i w u (ReadsFlags k j) _ x (ap (λ (n : ℕ). tells.Flags n) found)
      (is ∙ ap (λ (n : ℕ). after_flags s.dict (view_of w) k j n) found) room refl refl refl

  -- a post writes the place into the cell of the claimed turn
  pub posts_turn : (k j : ℕ) (looked met : Bool) → MayAct s i w (Posts k j looked met)
      → view_of u ≡ after_post (view_of w) j
      → Acted s record s {
        cells = with_item s.cells k (Posted j);
        workers = with_item s.workers i u;
      } i Post (tells.Posted j)
  posts_turn k j looked met x is =
      acted s _ i w u (Posts k j looked met) _ x refl is room refl refl refl

  -- a try leaves the mark held, by this worker where it was free
  pub tries_mark : (held : Bool) → MayAct s i w Takes → held ≡ s.mark_held
      → view_of u ≡ after_take (view_of w) held s.mark_number
      → Acted s record s { mark_held = true; workers = with_item s.workers i u } i Take
      (told_of_take held s.mark_number)
  tries_mark held x test is =
      acted s _ i w u Takes _ x (ap (λ b. told_of_take b s.mark_number) test)
      (is ∙ ap (λ b. after_take (view_of w) b s.mark_number) test) room refl refl refl

  looks_at_cell : (c : ℕ) (cell : Cell) → MayAct s i w (Looks c)
      → cell ≡ get_or s.cells.items c cell
      → view_of u ≡ with_hold (view_of w) (hold_at c (phase_after_look cell))
      → Acted s record s { workers = with_item s.workers i u } i Look (told_of_look cell)
  looks_at_cell c cell x at is =
      let same = cell_is s c cell x.kept x.ok.1 at in
      acted s _ i w u (Looks c) _ x (ap told_of_look same)
      (is ∙ ap (λ (y : Cell). with_hold (view_of w) (hold_at c (phase_after_look y))) same) room
      refl
      refl refl

  -- a holder whose look finds a post weighs from its place on
  pub finds_post : (c j : ℕ) (cell : Cell) → MayAct s i w (Looks c)
      → cell ≡ get_or s.cells.items c cell → cell ≡ Posted j
      → view_of u ≡ with_hold (view_of w) (hold_at c (Scan j))
      → Acted s record s { workers = with_item s.workers i u } i Look (tells.Found j)
  finds_post c j cell x at found is =
      let look = λ (y : Cell). with_hold (view_of w) (hold_at c (phase_after_look y)) in
      subst (λ (told : Told). Acted s record s { workers = with_item s.workers i u } i Look told)
      (ap told_of_look found) (looks_at_cell c cell x at (is ∙ ap look (sym found)))

  -- a holder whose look finds no post halts
  pub finds_nothing : (c : ℕ) (cell : Cell) → MayAct s i w (Looks c)
      → cell ≡ get_or s.cells.items c cell → ((j : ℕ) → cell ≡ Posted j → ⊥)
      → view_of u ≡ with_hold (view_of w) (hold_at c Halted)
      → Acted s record s { workers = with_item s.workers i u } i Look tells.Nothing
  finds_nothing c cell x at none is =
      let halts = not_posted cell none in
      let look = λ (y : Phase). with_hold (view_of w) (hold_at c y) in
      subst (λ (told : Told). Acted s record s { workers = with_item s.workers i u } i Look told)
      halts.1 (looks_at_cell c cell x at (is ∙ ap look (sym halts.0)))

  -- by the seat count that was read, the holder is ready to seat or goes on behind the entry
  pub weighs_entry : (c j : ℕ) (open' found : Bool) (seats : List ℕ) → MayAct s i w (Weighs c j)
      → found ≡ open'
      → found ≡ nat_lt (get_or seats (entry s.dict c j) 0) (quota_of s.dict (entry s.dict c j))
      → seats ≡ s.seats.items
      → view_of u ≡ with_hold (view_of w) (hold_at c (phase_after_weigh open' j))
      → Acted s record s { workers = with_item s.workers i u } i Weigh (told_of_weigh open')
  weighs_entry c j open' found seats x was test here is =
      let same = opens s c j open' found seats was test here in
      acted s _ i w u (Weighs c j) _ x (ap told_of_weigh same)
      (is ∙ ap (λ b. with_hold (view_of w) (hold_at c (phase_after_weigh b j))) same) room refl refl
      refl

  -- taking a seat adds one to the programme's count, and tells whether that fills it
  pub takes_seat : (c j p n : ℕ) (filled : Bool) → MayAct s i w (Seats c j) → p ≡ entry s.dict c j
      → n ≡ seats_of (machine_of s).core p → filled ≡ nat_le (quota_of s.dict p) (n + 1)
      → view_of u ≡ with_hold (view_of w) (hold_at c (Seated j filled))
      → Acted s record s {
        seats = with_item s.seats p (n + 1);
        workers = with_item s.workers i u;
      } i Seat (tells.Seated filled)
  takes_seat c j p n filled x which count test is =
      let q : ℕ = entry s.dict c j in
      let m : ℕ = seats_of (machine_of s).core q in
      let read : n ≡ m = count ∙ ap (λ (k : ℕ). seats_of (machine_of s).core k) which in
      let last : filled ≡ is_last_seat s.dict (machine_of s).core q =
      test ∙ (λ k. nat_le (quota_of s.dict (which k)) (read k + 1)) in
      subst
      (λ (z : ℕ × ℕ). Acted s record s {
        seats = with_item s.seats z.0 (z.1 + 1);
        workers = with_item s.workers i u;
      } i Seat (tells.Seated filled))
      (λ k. (sym which k, sym read k))
      (acted s _ i w u (Seats c j) _ x (ap (λ b. tells.Seated b) last)
      (is ∙ ap (λ b. with_hold (view_of w) (hold_at c (Seated j b))) last) room refl refl refl)

  -- raising a flag writes it into the word of its group
  pub raises_flag : (c j p group word raised : ℕ) → MayAct s i w (Raises c j)
      → p ≡ entry s.dict c j → group ≡ flag_group p
      → word ≡ get_or s.flags.items (flag_group p) 0 → raised ≡ with_flag word p
      → view_of u ≡ with_hold (view_of w) (hold_at c (Raised j))
      → Acted s record s {
        flags = with_item s.flags group raised;
        workers = with_item s.workers i u;
      } i Raise (tells.Raised p)
  raises_flag c j p group word raised x which its read is_raised is =
      let q : ℕ = entry s.dict c j in
      let old : word ≡ get_or s.flags.items (flag_group q) 0 =
      read ∙ ap (λ (n : ℕ). get_or s.flags.items (flag_group n) 0) which in
      let new : raised ≡ with_flag (get_or s.flags.items (flag_group q) 0) q =
      is_raised ∙ (λ k. with_flag (old k) (which k)) in
      subst
      (λ (z : ℕ × (ℕ × ℕ)). Acted s record s {
        flags = with_item s.flags z.1.0 z.1.1;
        workers = with_item s.workers i u;
      } i Raise (tells.Raised z.0))
      (λ k. (sym which k, (sym (its ∙ ap (λ (n : ℕ). flag_group n) which) k, sym new k)))
      (acted s _ i w u (Raises c j) _ x refl is room refl refl refl)

  -- committing a turn writes its place into its cell, and the holder goes on to the next
  pub seals_turn : (c j : ℕ) (phase : Phase) → MayAct s i w (Seals c j phase)
      → view_of u ≡ with_hold (view_of w) (hold_at (c + 1) Idle)
      → Acted s record s {
        cells = with_item s.cells c (Committed j);
        workers = with_item s.workers i u;
      } i Seal (tells.Sealed c)
  seals_turn c j phase x is = acted s _ i w u (Seals c j phase) _ x refl is room refl refl refl

  -- a release frees the mark, with the number of turns that the holder knows as committed
  pub frees_mark : (c : ℕ) (phase : Phase) → MayAct s i w (Releases c phase)
      → view_of u ≡ with_hold (view_of w) None
      → Acted s record s {
        mark_held = false;
        mark_number = c;
        workers = with_item s.workers i u;
      } i Release (tells.Released c)
  frees_mark c phase x is = acted s _ i w u (Releases c phase) _ x refl is room refl refl refl
