-- The limits of a desk in numbers, as docs/FORMATS.md has them.
use Rattle.std.specs.Prelude.{◌≡◌, ℕ, ◌^◌, List, [], ◌∷◌, Ok}
use Rattle.place_base.specs.declared.limits.TheConstants.{MOST_CANDIDATES, MOST_REQUESTS, LARGEST_NUMBER, LARGEST_CODE, LONGEST_LINE, LF, CR, COMMA, BYTE_ORDER_MARK}
use Rattle.place_edges.specs.Shelf.{file_limit}
use Rattle.registration_desk.specs.Words.{clerks_of}
use Rattle.registration_desk.specs.declared.desk.TheConstants.{MOST_CLERKS}

-- the clerks: the most of them, and how many there are where the words name the two files alone
pub record HasClerks : Type 0 where
  pub most : MOST_CLERKS ≡ 64
  pub unsaid : (placement requests : List ℕ) → clerks_of (placement ∷ requests ∷ []) ≡ Ok 4

-- the limits of the two files
pub record HasFileLimits : Type 0 where
  pub candidates : MOST_CANDIDATES ≡ 3500000
  pub requests : MOST_REQUESTS ≡ 3500000
  pub number : LARGEST_NUMBER ≡ 99999999999
  pub code : LARGEST_CODE ≡ 999999999
  pub line : LONGEST_LINE ≡ 1024
  pub file : file_limit ≡ 2 ^ 30

-- the bytes that cut them
pub record HasFileBytes : Type 0 where
  pub line_feed : LF ≡ 10
  pub carriage_return : CR ≡ 13
  pub comma : COMMA ≡ 44
  pub mark : BYTE_ORDER_MARK ≡ 239 ∷ 187 ∷ 191 ∷ []
