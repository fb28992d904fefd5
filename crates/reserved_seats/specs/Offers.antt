-- Offers: what stands between a row of the programmes file and an index of a market.
use Rattle.std.specs.Prelude.{ℕ, ◌+◌, ◌-◌, Bool, true, false, nat_lt, List, [], ◌∷◌, if◌then◌else◌}
use Rattle.reserved_seats.specs.declared.offers.Seat.{Seat}
use Rattle.reserved_seats.specs.declared.offers.Seat.TheVariants.{General, Reserved}
use Rattle.reserved_seats.specs.declared.offers.Offer.{Offer}

-- the general seats of a row
abbrev pub general : ℕ → Offer
general row = record { row = row; seat = General }

-- the reserved seats of a row
abbrev pub reserved : ℕ → Offer
reserved row = record { row = row; seat = Reserved }

-- the index of seats of a kind in the market of a file with so many rows: the general seats of all
-- rows stand before the reserved ones of all rows
abbrev pub seat_index : ℕ → Seat → ℕ → ℕ
seat_index rows General row = row
seat_index rows Reserved row = rows + row

-- the index of an offer
abbrev pub index_of : ℕ → Offer → ℕ
index_of rows offer = seat_index rows offer.seat offer.row

-- the offer at an index
abbrev pub offer_at : ℕ → ℕ → Offer
offer_at rows index = if nat_lt index rows then general index else reserved (index - rows)

-- the offers of a row: its general seats, and just after them, where they count, its reserved ones
abbrev pub offers_of : Bool → ℕ → List Offer
offers_of false row = general row ∷ []
offers_of true row = general row ∷ reserved row ∷ []
