-- The limits in numbers, as docs/FORMATS.md has them.
use Rattle.std.specs.Prelude.{◌≡◌, ◌^◌, [], ◌∷◌}
use Rattle.command_words.specs.declared.words.TheConstants.{WORKERS, MAX_WORKERS, MAX_QUOTAS}
use Rattle.place_base.specs.declared.limits.TheConstants.{MOST_PROGRAMMES, MOST_CANDIDATES, MOST_REQUESTS, MOST_RANKS, MOST_TYPES, MOST_ENTRIES, LARGEST_NUMBER, LARGEST_CODE, LARGEST_QUOTA, LARGEST_RANK, LONGEST_NAME, LONGEST_LINE, MOST_PIECES, LF, CR, COMMA, SEMICOLON, BYTE_ORDER_MARK}
use Rattle.place_edges.specs.Shelf.{file_limit}
use Rattle.quota_sweep.specs.declared.row.TheConstants.{MAX_ROWS}
use Rattle.market.specs.declared.limits.TheConstants.{MAX_TYPES, MAX_PROGRAMMES, MAX_CANDIDATES, MAX_ENTRIES, MAX_QUOTA, MAX_RANK}

-- those of the files
pub record HasFileLimits : Type 0 where
  pub programmes : MOST_PROGRAMMES ≡ 60000
  pub candidates : MOST_CANDIDATES ≡ 3500000
  pub requests : MOST_REQUESTS ≡ 3500000
  pub ranks : MOST_RANKS ≡ 20000000
  pub types : MOST_TYPES ≡ 16
  pub entries : MOST_ENTRIES ≡ 24
  pub number : LARGEST_NUMBER ≡ 99999999999
  pub code : LARGEST_CODE ≡ 999999999
  pub quota : LARGEST_QUOTA ≡ 100000
  pub rank : LARGEST_RANK ≡ 99999999
  pub name : LONGEST_NAME ≡ 8
  pub line : LONGEST_LINE ≡ 1024
  pub file : file_limit ≡ 2 ^ 30
  pub pieces : MOST_PIECES ≡ 64

-- the number of workers where the words give none, and the most that they may ask for
pub record HasWorkerLimits : Type 0 where
  pub usual : WORKERS ≡ 4
  pub most : MAX_WORKERS ≡ 64

-- the bytes that cut them
pub record HasFileBytes : Type 0 where
  pub line_feed : LF ≡ 10
  pub carriage_return : CR ≡ 13
  pub comma : COMMA ≡ 44
  pub semicolon : SEMICOLON ≡ 59
  pub mark : BYTE_ORDER_MARK ≡ 239 ∷ 187 ∷ 191 ∷ []

-- the most quotas of a sweep: what its words may ask for, and what it takes
pub record HasSweepLimits : Type 0 where
  pub asked : MAX_QUOTAS ≡ 1000
  pub taken : MAX_ROWS ≡ 1000

-- those of a market
pub record HasMarketLimits : Type 0 where
  pub types : MAX_TYPES ≡ 32
  pub programmes : MAX_PROGRAMMES ≡ 120000
  pub candidates : MAX_CANDIDATES ≡ 3500000
  pub entries : MAX_ENTRIES ≡ 48
  pub quota : MAX_QUOTA ≡ 100000
  pub rank : MAX_RANK ≡ 99999999
