-- Numbers in decimal digits, and names of score types in a field.
use Rattle.std.specs.Prelude.{ℕ, List, [], ◌∷◌, Bool, false, ◌&&◌, bytes_eq, codes, nat_le, if◌then◌else◌, Option, Some, None, Result, Ok, Err}
use Rattle.std.specs.Char.{is_ascii_digit}
use Rattle.std.specs.List.{list_all}
use Rattle.std.specs.Str.Parse.{digits_value}
use Rattle.place_base.specs.TypeName.{is_type_name}
use Rattle.place_base.specs.declared.fault.FaultKind.{FaultKind}
use Rattle.place_base.specs.declared.fault.FaultKind.TheVariants.{BadTypeName, NotNumber, OutOfRange}

-- only digits
abbrev pub all_digits : List ℕ → Bool
all_digits field = list_all is_ascii_digit field

-- not empty, and only digits
abbrev pub is_number : List ℕ → Bool
is_number [] = false
is_number (b ∷ bs) = all_digits (b ∷ bs)

-- the number that the digits write
abbrev pub value : List ℕ → ℕ
value field = digits_value 10 field

-- the value of a number field between two limits, or what is wrong with it
abbrev pub number_of : List ℕ → ℕ → ℕ → Result ℕ FaultKind
number_of field low high =
    if is_number field
    then (if nat_le low (value field) && nat_le (value field) high
    then Ok (value field)
    else Err OutOfRange)
    else Err NotNumber

-- what was read, as a value that may be none
abbrev pub some_of : Result ℕ FaultKind → Result (Option ℕ) FaultKind
some_of (Ok read) = Ok (Some read)
some_of (Err kind) = Err kind

-- the value of a field that is `-` for none or a number between two limits, or what is wrong with it
abbrev pub optional_number_of : List ℕ → ℕ → ℕ → Result (Option ℕ) FaultKind
optional_number_of field low high =
    if bytes_eq field (codes "-") then Ok None else some_of (number_of field low high)

-- the number in such a field, none for `-`
abbrev pub optional_value : List ℕ → Option ℕ
optional_value field = if bytes_eq field (codes "-") then None else Some (value field)

-- the name in a field, or what is wrong with it
abbrev pub type_name_of : List ℕ → Result (List ℕ) FaultKind
type_name_of field = if is_type_name field then Ok field else Err BadTypeName
