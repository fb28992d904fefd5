-- What views know stays true where the state grows: claims and seat counts rise, and a cell is
-- posted and then committed, never the other way.
use Rattle.std.proofs.Common.{◌≡◌, ◌≢◌, ℕ, zero, suc, ◌≤◌, Bool, List, [], ◌∷◌, set, Option, Some, nat_le, sym, refl, ap, subst, ◌∙◌, arith}
use Rattle.std.specs.Prelude.{slice_get}
use Rattle.market.specs.Dictatorships.{Dictatorship}
use Rattle.interleaving_core.specs.declared.parts.Cell.{Cell}
use Rattle.interleaving_core.specs.declared.parts.Cell.TheVariants.{Posted}
use Rattle.interleaving_core.specs.declared.parts.Claiming.{Claiming}
use Rattle.interleaving_core.specs.declared.parts.Phase.{Phase}
use Rattle.interleaving_core.specs.declared.parts.Phase.TheVariants.{Idle, Halted, Scan, Ready, Seated, Raised}
use Rattle.interleaving_core.specs.declared.parts.Holding.{Holding}
use Rattle.interleaving_core.specs.Core.{View, Core, entry, quota_of, seats_of, cell_at, hold_at}
use Rattle.interleaving_core.specs.Events.{with_claim, with_hold}
use Rattle.interleaving_core.specs.Sound.{hold_bit, done_bit, claim_bit, seat_bit, late_bit, IsPostedUpTo, IsSoundPhase, IsCellFrom, IsSoundClaim, IsSoundHolding, DoesOneThing, IsSoundView, IsSoundMark, AreSoundSeats, AreSoundFlags, AreSoundClaims, IsSound}
use Rattle.interleaving_core.proofs.Places.{each_set, sum_set}
use Rattle.interleaving_core.proofs.OwnTurns.{own_stays}

-- what holds of the value that is there
pub at_some : {A : Type 0} (P : A → Type 0) (a : A) → P a → (b : A) → Some a ≡ Some b → P b
at_some P a p b e = let is : a ≡ b = cc (e) in subst P is p

-- what was written at a place stands there
pub here_set : {A : Type 0} (l : List A) (i : ℕ) (x y : A) → slice_get l i ≡ Some x
    → slice_get (set l i y) i ≡ Some y
here_set [] i x y e = absurd (cc (e))
here_set (z ∷ zs) zero x y e = refl
here_set (z ∷ zs) (suc i) x y e = here_set zs i x y e

-- ---- the state grows

-- from c to e no claim number and no seat count falls, and no cell goes back
pub record Grows (c e : Core) : Type 0 where
  pub more : c.claim_number ≤ e.claim_number
  pub seats : (p : ℕ) → seats_of c p ≤ seats_of e p
  pub cells : (k j : ℕ) → IsCellFrom (cell_at c k) j → IsCellFrom (cell_at e k) j

-- what a claim knows stays true where the state grows
pub claim_grows : (d : Dictatorship) (c e : Core) (x : Claiming) → Grows c e → IsSoundClaim d c x
    → IsSoundClaim d e x
claim_grows d c e x g f =
    record {
      turn = f.turn;
      drawn = let more = g.more in let l = f.drawn in omega arith;
      passed = f.passed;
      full = λ i l. let full = f.full i l in let rise = g.seats (entry d x.turn i) in omega arith;
      met = f.met;
    }

-- what a view knows, where what it knows as holder is shown apart
pub view_grows : (d : Dictatorship) (c e : Core) (count now : ℕ) (v : View) → Grows c e
    → ((h : Holding) → v.hold ≡ Some h → IsSoundHolding d c count h → IsSoundHolding d e now h)
    → IsSoundView d c count v → IsSoundView d e now v
view_grows d c e count now v g holds f =
    record {
      one = f.one;
      claim = λ x is. claim_grows d c e x g (f.claim x is);
      hold = λ h is. holds h is (f.hold h is);
      own = own_stays d c e v.own v.claim g.more g.cells f.own;
      past = λ is. let more = g.more in let l = f.past is in omega arith;
    }

-- ---- what the holder weighs stays

-- from c to e no seat count changes, and a post of turn h stays
pub record Stays (c e : Core) (h : ℕ) : Type 0 where
  pub seats : (p : ℕ) → seats_of e p ≡ seats_of c p
  pub cell : (j : ℕ) → cell_at c h ≡ Posted j → cell_at e h ≡ Posted j

posted_stays : (d : Dictatorship) (c e : Core) (h j : ℕ) → Stays c e h → IsPostedUpTo d c h j
    → IsPostedUpTo d e h j
posted_stays d c e h j s f = (f.0, (f.1.0, s.cell f.1.0 f.1.1, f.1.2))

phase_stays : (d : Dictatorship) (c e : Core) (h : ℕ) (x : Phase) → Stays c e h
    → IsSoundPhase d c h x
    → IsSoundPhase d e h x
phase_stays d c e h Idle s f = tt
phase_stays d c e h Halted s f = tt
phase_stays d c e h (Scan j) s f = (
  posted_stays d c e h j s f.0,
  f.1,
  λ i l. let full = f.2 i l in let same = s.seats (entry d h i) in omega arith,
)
phase_stays d c e h (Ready j) s f = (posted_stays d c e h j s f.0, f.1, f.2)
phase_stays d c e h (Seated j b) s f = (
  posted_stays d c e h j s f.0,
  f.1,
  f.2,
  f.3
      ∙ ap (λ (n : ℕ). nat_le (quota_of d (entry d h j)) n) (sym (s.seats (entry d h j))),
)
phase_stays d c e h (Raised j) s f = (
  posted_stays d c e h j s f.0,
  f.1,
  f.2,
  (let full = f.3 in let same = s.seats (entry d h j) in omega arith),
)

-- what a holder knows stays true where the seat counts and the post of its turn stay
pub holding_stays : (d : Dictatorship) (c e : Core) (count : ℕ) (h : Holding)
    → Stays c e h.committed
    → IsSoundHolding d c count h → IsSoundHolding d e count h
holding_stays d c e count h s f =
    record { committed = f.committed; phase = phase_stays d c e h.committed h.phase s f.phase }

-- what a holder of c turns knows in this phase
pub holding_at : (d : Dictatorship) (e : Core) (count c : ℕ) (x : Phase) → c ≡ count
    → IsSoundPhase d e c x
    → (h : Holding) → hold_at c x ≡ Some h → IsSoundHolding d e count h
holding_at d e count c x is f =
    at_some (IsSoundHolding d e count) (record { committed = c; phase = x })
    record { committed = is; phase = f }

-- the holder's view after its event
pub holder_fits : (d : Dictatorship) (c e : Core) (count now : ℕ) (v : View) (mine : Holding)
    (hold : Option Holding) → Grows c e → IsSoundView d c count v → v.hold ≡ Some mine
    → ((h : Holding) → hold ≡ Some h → IsSoundHolding d e now h)
    → IsSoundView d e now (with_hold v hold)
holder_fits d c e count now v mine hold g f is holds =
    record {
      one =
          record {
            holder = λ h at. f.one.holder mine is;
            debtor = λ owes. absurd (let none = (f.one.debtor owes).1 in cc (none, is));
            leaver = f.one.leaver;
          };
      claim = λ x at. absurd (let none = f.one.holder mine is in cc (none, at));
      hold = holds;
      own = own_stays d c e v.own v.claim g.more g.cells f.own;
      past = λ done. let more = g.more in let l = f.past done in omega arith;
    }

-- a claimant does one thing
pub claimant_one : (v : View) (x : Claiming) (claim : Option Claiming) → v.claim ≡ Some x
    → DoesOneThing v
    → DoesOneThing (with_claim v claim)
claimant_one v x claim is f =
    record {
      holder = λ h at. absurd (let none = f.holder h at in cc (none, is));
      debtor = λ owes. absurd (let none = (f.debtor owes).0 in cc (none, is));
      leaver = λ done. absurd (let none = (f.leaver done).0 in cc (none, is));
    }

-- ---- one view is replaced

-- the mark stays sound where the new view holds it exactly where the old one did
pub mark_stays : (d : Dictatorship) (held : Bool) (number : ℕ) (views : List View) (count i : ℕ)
    (v w : View)
    → slice_get views i ≡ Some v → hold_bit w ≡ hold_bit v → IsSoundMark d held number views count
    → IsSoundMark d held number (set views i w) count
mark_stays d held number views count i v w at same m =
    record {
      within = m.within;
      behind = m.behind;
      free = m.free;
      holders = let t = sum_set hold_bit views i v w at in let one = m.holders in omega arith;
    }

-- the seat counts stay sound where the new view has seated what the old one had
pub seats_stay : (d : Dictatorship) (seats : List ℕ) (views : List View) (count i : ℕ) (v w : View)
    → slice_get views i ≡ Some v → ((p : ℕ) → seat_bit d p w ≡ seat_bit d p v)
    → AreSoundSeats d seats views count → AreSoundSeats d seats (set views i w) count
seats_stay d seats views count i v w at same s =
    record {
      each_programme = s.each_programme;
      counts = λ p l.
          let t = sum_set (seat_bit d p) views i v w at in
          let n = s.counts p l in
          let e = same p in
          omega arith;
    }

-- the flags stay sound where the new view has the flag still to raise that the old one had
pub flags_stay : (d : Dictatorship) (flags seats : List ℕ) (views : List View) (i : ℕ) (v w : View)
    → slice_get views i ≡ Some v → ((p : ℕ) → late_bit d p w ≡ late_bit d p v)
    → AreSoundFlags d flags seats views → AreSoundFlags d flags seats (set views i w)
flags_stay d flags seats views i v w at same f =
    record {
      each_group = f.each_group;
      raised = λ p l.
          let t = sum_set (late_bit d p) views i v w at in
          let n = f.raised p l in
          let e = same p in
          omega arith;
      unused = f.unused;
      narrow = f.narrow;
    }

-- the claims stay sound where the new view claims what the old one did and is done where it was
pub claims_stay : (d : Dictatorship) (number : ℕ) (cells : List Cell) (views : List View) (i : ℕ)
    (v w : View)
    → slice_get views i ≡ Some v → ((k : ℕ) → claim_bit k w ≡ claim_bit k v)
    → done_bit w ≡ done_bit v
    → AreSoundClaims d number cells views → AreSoundClaims d number cells (set views i w)
claims_stay d number cells views i v w at same same_end f =
    record {
      claimed = λ k l drawn.
          let t = sum_set (claim_bit k) views i v w at in
          let n = f.claimed k l drawn in
          let e = same k in
          omega arith;
      untouched = f.untouched;
      few = let t = sum_set done_bit views i v w at in let n = f.few in omega arith;
    }

-- all views, where what others know as holders is shown apart
pub views_fit : (d : Dictatorship) (c e : Core) (count now i : ℕ) (w : View) → Grows c e
    → ((j : ℕ) (u : View) → slice_get c.views j ≡ Some u → IsSoundView d c count u)
    → ((j : ℕ) (u : View) → j ≢ i → slice_get c.views j ≡ Some u → (h : Holding) → u.hold ≡ Some h
    → IsSoundHolding d c count h → IsSoundHolding d e now h)
    → IsSoundView d e now w → (j : ℕ) (u : View) → slice_get (set c.views i w) j ≡ Some u
    → IsSoundView d e now u
views_fit d c e count now i w g old others mine =
    each_set (IsSoundView d e now) c.views i w mine
    (λ j u other at. view_grows d c e count now u g (others j u other at) (old j u at))

-- the state with other views, another mark and another number of draws
abbrev pub calm : Core → ℕ → Bool → ℕ → List View → Core
calm c drawn held number views =
    record c { claim_number = drawn; mark_held = held; mark_number = number; views = views }

-- it grows with the draws, and nothing that a holder weighs changes
pub calm_grows : (c : Core) (drawn : ℕ) (held : Bool) (number : ℕ) (views : List View)
    → c.claim_number ≤ drawn → Grows c (calm c drawn held number views)
calm_grows c drawn held number views more =
    record { more = more; seats = λ p. omega arith; cells = λ k j p. p }

-- so what is weighed of any turn stays
pub calm_stays : (c : Core) (drawn : ℕ) (held : Bool) (number : ℕ) (views : List View) (h : ℕ)
    → Stays c (calm c drawn held number views) h
calm_stays c drawn held number views h = record { seats = λ p. refl; cell = λ j p. p }

-- an event that writes neither a seat count nor a cell nor a flag, and seats nobody
pub calm_step : (d : Dictatorship) (c : Core) (s : IsSound d c) (i : ℕ) (v w : View) (drawn : ℕ)
    (held : Bool) (number : ℕ) → slice_get c.views i ≡ Some v → c.claim_number ≤ drawn
    → IsSoundMark d held number (set c.views i w) s.count
    → AreSoundClaims d drawn c.cells (set c.views i w)
    → ((p : ℕ) → seat_bit d p w ≡ seat_bit d p v) → ((p : ℕ) → late_bit d p w ≡ late_bit d p v)
    → IsSoundView d (calm c drawn held number (set c.views i w)) s.count w
    → IsSound d (calm c drawn held number (set c.views i w))
calm_step d c s i v w drawn held number at more mark claims same_seat same_late fits =
    let views = set c.views i w in
    let e = calm c drawn held number views in
    record {
      count = s.count;
      mark = mark;
      cells = s.cells;
      seats = seats_stay d c.seats c.views s.count i v w at same_seat s.seats;
      flags = flags_stay d c.flags c.seats c.views i v w at same_late s.flags;
      posts = s.posts;
      claims = claims;
      views =
          views_fit d c e s.count s.count i w (calm_grows c drawn held number views more) s.views
          (λ j u other there h is.
          holding_stays d c e s.count h (calm_stays c drawn held number views h.committed))
          fits;
    }

-- the same where nothing is drawn, and the view neither claims nor ends
pub mark_step : (d : Dictatorship) (c : Core) (s : IsSound d c) (i : ℕ) (v w : View) (held : Bool)
    (number : ℕ) → slice_get c.views i ≡ Some v
    → IsSoundMark d held number (set c.views i w) s.count
    → ((k : ℕ) → claim_bit k w ≡ claim_bit k v) → done_bit w ≡ done_bit v
    → ((p : ℕ) → seat_bit d p w ≡ seat_bit d p v) → ((p : ℕ) → late_bit d p w ≡ late_bit d p v)
    → IsSoundView d c s.count w
    → IsSound d (calm c c.claim_number held number (set c.views i w))
mark_step d c s i v w held number at mark same_claim same_end same_seat same_late fits =
    let n = c.claim_number in
    let views = set c.views i w in
    calm_step d c s i v w n held number at (omega arith) mark
    (claims_stay d n c.cells c.views i v w at same_claim same_end s.claims) same_seat same_late
    (view_grows d c (calm c n held number views) s.count s.count w
    (calm_grows c n held number views (omega arith))
    (λ h is. holding_stays d c _ s.count h (calm_stays c n held number views h.committed)) fits)

-- the same where the mark stays
pub view_step : (d : Dictatorship) (c : Core) (s : IsSound d c) (i : ℕ) (v w : View)
    → slice_get c.views i ≡ Some v → hold_bit w ≡ hold_bit v
    → ((k : ℕ) → claim_bit k w ≡ claim_bit k v) → done_bit w ≡ done_bit v
    → ((p : ℕ) → seat_bit d p w ≡ seat_bit d p v) → ((p : ℕ) → late_bit d p w ≡ late_bit d p v)
    → IsSoundView d c s.count w
    → IsSound d record c { views = set c.views i w }
view_step d c s i v w at same_hold =
    mark_step d c s i v w c.mark_held c.mark_number at
    (mark_stays d c.mark_held c.mark_number c.views s.count i v w at same_hold s.mark)
