-- Names of score types.
use Rattle.std.specs.Prelude.{ℕ, List, Bool, ◌&&◌, ◌||◌, nat_le, length}
use Rattle.std.specs.Char.{is_ascii_digit, is_ascii_uppercase}
use Rattle.std.specs.List.{list_all}
use Rattle.place_base.specs.declared.limits.TheConstants.{LONGEST_NAME}

-- A to Z, or 0 to 9
abbrev pub is_type_byte : ℕ → Bool
is_type_byte b = is_ascii_uppercase b || is_ascii_digit b

-- 1 to 8 bytes of A to Z and 0 to 9
abbrev pub is_type_name : List ℕ → Bool
is_type_name text =
    nat_le 1 (length text) && nat_le (length text) LONGEST_NAME && list_all is_type_byte text
