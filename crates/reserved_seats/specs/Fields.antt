-- The fields that print an offer.
use Rattle.std.specs.Prelude.{ℕ, Bool, true, false, List, [], ◌∷◌, codes, decimal, bytes_eq, slice_index, if◌then◌else◌, Option, Some, None}
use Rattle.reserved_seats.specs.declared.offers.Seat.{Seat}
use Rattle.reserved_seats.specs.declared.offers.Seat.TheVariants.{General, Reserved}
use Rattle.reserved_seats.specs.declared.offers.Offer.{Offer}

-- the letter of a kind of seats
abbrev pub letter_of : Seat → List ℕ
letter_of General = codes "G"
letter_of Reserved = codes "R"

-- the kind of seats that a field names, or none
abbrev pub seat_of : List ℕ → Option Seat
seat_of field =
    if bytes_eq field (codes "G") then Some General
    else (if bytes_eq field (codes "R") then Some Reserved else None)

-- the code of an offer's row, beside the codes of all rows
abbrev pub code_of : List ℕ → Offer → ℕ
code_of codes offer = slice_index codes offer.row

-- the fields that print an offer: the code, and, where the file has reserved seats, the letter
abbrev pub offer_fields : Bool → List ℕ → Offer → List (List ℕ)
offer_fields false codes offer = decimal (code_of codes offer) ∷ []
offer_fields true codes offer = decimal (code_of codes offer) ∷ letter_of offer.seat ∷ []
