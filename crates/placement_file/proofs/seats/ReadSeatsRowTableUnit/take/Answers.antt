use Rattle.std.proofs.Common.{◌≡◌, ◌++◌, ◌∷◌, [], ℕ, List, Option, None, Some, is_some, length, nat_eq, position, refl, sym, ap, subst, ◌∙◌}
use Rattle.std.specs.Map.{lookup}
use Rattle.std.proofs.lemmas.Option.{slice_get_read}
use Rattle.indexmap.proofs.CallerLemmas.{insert_entry-new}
use Rattle.placement_file.proofs.SeatsGrowing.{HasSeats-next, as-few, line-within, meaning-new, meaning-repeated, none-left}
use Rattle.placement_file.specs.SeatLists.{HasSeats, SeatRows, candidates_of}
use Rattle.placement_file.proofs.seats.ReadSeatsRowTableUnit.take.Goals as goal

pub returns-in-Some : goal.returns-in-Some
returns-in-Some c = λ version earlier row has says.
    let seats : SeatRows = c.args.self.now.held.entries in
    let lines = c.args.self.now.lines.items in
    let found : position (nat_eq c.args.fields.number) (candidates_of seats)
    ≡ Some c.in-Some.index =
    ap (λ (n : ℕ). position (nat_eq n) (candidates_of seats)) (sym c.get-number.ensures.value)
    ∙ sym c.get_index_of.ensures.index ∙ c.in-Some.is in
    let within = line-within earlier row seats lines c.args.fields has says c.in-Some.index found in
    let line = slice_get_read lines (length lines) c.in-Some.index c.index-earlier.result.now refl
    within c.index-earlier.ensures in (
      meaning-repeated earlier row seats lines c.args.fields has says c.in-Some.index
          c.index-earlier.result.now found line
          ∙ ap (λ fault. Some fault) (sym c.duplicate_at-fault.ensures),
      has,
    )

pub returns : goal.returns
returns c = λ version earlier row has says.
    let seats : SeatRows = c.args.self.now.held.entries in
    let lines = c.args.self.now.lines.items in
    let number = c.get-number.ensures.value in
    let missed : position (nat_eq c.args.fields.number) (candidates_of seats) ≡ None =
    ap (λ (n : ℕ). position (nat_eq n) (candidates_of seats)) (sym number)
    ∙ sym c.get_index_of.ensures.index ∙ c.in_default.is in
    let absent : lookup (nat_eq c.get-number.result) seats ≡ None =
    none-left _ (sym c.get_index_of.ensures.found
    ∙ ap (λ (i : Option ℕ). is_some i) c.in_default.is)
    in
    let entries = c.in_ok-insert.ensures.entries
    ∙ insert_entry-new nat_eq c.args.self.now.held c.get-number.result c.args.fields.code absent
    ∙ ap (λ (n : ℕ). seats ++ (n, c.args.fields.code) ∷ []) number in (
      meaning-new earlier row seats lines c.args.fields has says missed,
      subst (λ (all : SeatRows). HasSeats (earlier ++ row ∷ []) all c.push.new.self.items)
          (sym entries)
          (subst (λ (all : List ℕ). HasSeats (earlier ++ row ∷ [])
          (seats ++ (c.args.fields.number, c.args.fields.code) ∷ []) all)
          (sym c.in_ok-push.ensures.items)
          (HasSeats-next earlier row seats lines c.args.fields has says
          (as-few earlier c.requires.1 seats lines has c.requires.2 c.requires.3))),
    )
