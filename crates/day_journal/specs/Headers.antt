-- Defines the header of a journal: what it must hold, its bytes, and how it is read.
use Rattle.std.specs.Prelude.{◌≡◌, ◌<◌, ◌^◌, ◌-◌, ◌==◌, ◌&&◌, ℕ, zero, suc, Bool, List, [], ◌∷◌, ◌++◌, length, take}
use Rattle.std.specs.Prelude.{All, Option, Some, None, Result, Ok, Err, is_none, bytes_eq, codes, flat_map, if◌then◌else◌}
use Rattle.std.specs.Int.{w8, w16, w32, w64, to_be_bytes}
use Rattle.std.specs.Option.{ok_or}
use Rattle.days.specs.declared.day.Day.{Day}
use Rattle.reports.specs.Fields.{◌>>=◌, bytes_at, number_at, ranged_at, text_at}
use Rattle.reports.specs.Texts.{is_symbol}
use Rattle.sale_matrix.specs.declared.matrix.Matrix.{Matrix}
use Rattle.sale_matrix.specs.declared.matrix.Matrix.TheVariants as matrix
use Rattle.sha2.specs.Sha256.{sha256}
use Rattle.tape_types.specs.Names.{Names, names_fault}
use Rattle.tape_types.specs.Ranges.{FIRST_PARTICIPANT, LAST_PARTICIPANT, IsParticipant, IsSymbol, IsTapeNumber, TAPE_MOST}
use Rattle.day_journal.specs.declared.header_fault.JournalHeaderFault.{JournalHeaderFault}
use Rattle.day_journal.specs.declared.header_fault.JournalHeaderFault.TheVariants.{NoJournal, OtherVersion, Short, Damaged}

-- the first bytes of every journal
abbrev pub MAGIC : List ℕ
MAGIC = codes "tapejrnl"

-- the version of the format
abbrev pub JOURNAL_VERSION : ℕ
JOURNAL_VERSION = 1

-- a matrix as a byte
abbrev pub matrix_byte : Matrix → ℕ
matrix_byte matrix.One = 1
matrix_byte matrix.Two = 2

-- the matrix of a byte
abbrev pub matrix_of : ℕ → Option Matrix
matrix_of byte = if byte == 1 then Some matrix.One else if byte == 2 then Some matrix.Two else None

-- ---- what is written

-- a list of symbols after their number
abbrev pub symbols_text : List (List ℕ) → List ℕ
symbols_text symbols = to_be_bytes w16 (length symbols) ++ flat_map (λ s. s) symbols

-- a list of participants after their number
abbrev pub participants_text : List ℕ → List ℕ
participants_text participants = to_be_bytes w8 (length participants) ++ flat_map (λ p. to_be_bytes w8 p) participants

-- what stands before the listing
abbrev pub day_text : ℕ → Matrix → ℕ → List ℕ
day_text session matrix limit =
    MAGIC ++ (to_be_bytes w8 JOURNAL_VERSION ++ (to_be_bytes w64 session ++ (to_be_bytes w8 (matrix_byte matrix) ++ to_be_bytes w32 limit)))

-- the header without its digest
abbrev pub terms_text : Day → List ℕ
terms_text d = day_text d.session d.matrix d.limit ++ (symbols_text d.listing.symbols ++ participants_text d.listing.participants)

-- the digest of a header, to which the first group is chained
abbrev pub header_digest : Day → List ℕ
header_digest d = sha256 (terms_text d)

-- a header's bytes
abbrev pub header_text : Day → List ℕ
header_text d = terms_text d ++ header_digest d

-- every term of a day is in its range
pub record AreTerms (d : Day) : Type 0 where
  pub session : d.session < 2 ^ 64
  pub limit : IsTapeNumber d.limit
  pub symbols : All IsSymbol d.listing.symbols
  pub participants : All IsParticipant d.listing.participants
  pub listing : names_fault d.listing.symbols d.listing.participants ≡ None

-- ---- what is read

-- as many values as the count, after those that were read
unfoldable pub values_at : {A : Type 0} → (List ℕ → Result (A × List ℕ) JournalHeaderFault) → ℕ → List A → List ℕ → Result (List A × List ℕ) JournalHeaderFault
values_at read zero before bytes = Ok (before, bytes)
values_at read (suc count) before bytes = do
  value ← read bytes
  values_at read count (before ++ value.0 ∷ []) value.1

-- a symbol
abbrev pub symbol_at : List ℕ → Result (List ℕ × List ℕ) JournalHeaderFault
symbol_at bytes = text_at Short 8 is_symbol Damaged bytes

-- a participant
abbrev pub participant_at : List ℕ → Result (ℕ × List ℕ) JournalHeaderFault
participant_at bytes = ranged_at Short w8 FIRST_PARTICIPANT LAST_PARTICIPANT Damaged bytes

-- the symbols after their number
unfoldable pub symbols_at : List ℕ → Result (List (List ℕ) × List ℕ) JournalHeaderFault
symbols_at bytes = do
  count ← number_at Short w16 bytes
  values_at symbol_at count.0 [] count.1

-- the participants after their number
unfoldable pub participants_at : List ℕ → Result (List ℕ × List ℕ) JournalHeaderFault
participants_at bytes = do
  count ← number_at Short w8 bytes
  values_at participant_at count.0 [] count.1

-- the first bytes of a journal, of this version
unfoldable pub magic_at : List ℕ → Result (List ℕ × List ℕ) JournalHeaderFault
magic_at bytes = do
  magic ← bytes_at NoJournal 8 bytes
  if bytes_eq magic.0 MAGIC then Ok magic else Err NoJournal

-- the version
unfoldable pub version_at : List ℕ → Result (ℕ × List ℕ) JournalHeaderFault
version_at bytes = do
  version ← number_at Short w8 bytes
  if version.0 == JOURNAL_VERSION then Ok version else Err OtherVersion

-- the matrix
unfoldable pub matrix_at : List ℕ → Result (Matrix × List ℕ) JournalHeaderFault
matrix_at bytes = do
  byte ← number_at Short w8 bytes
  matrix ← ok_or (matrix_of byte.0) Damaged
  Ok (matrix, byte.1)

-- the terms, which may not be those of a day yet
unfoldable pub terms_at : List ℕ → Result (Day × List ℕ) JournalHeaderFault
terms_at bytes = do
  magic ← magic_at bytes
  version ← version_at magic.1
  session ← number_at Short w64 version.1
  matrix ← matrix_at session.1
  limit ← ranged_at Short w32 1 TAPE_MOST Damaged matrix.1
  symbols ← symbols_at limit.1
  participants ← participants_at symbols.1
  Ok (record { session = session.0; matrix = matrix.0; limit = limit.0; listing = record { symbols = symbols.0; participants = participants.0 } }, participants.1)

-- what was read of a header: its terms, its digest, and the bytes after it
abbrev pub ReadHeader : Type 0
ReadHeader = Day × (List ℕ × List ℕ)

-- whether the digest is that of the bytes before it
abbrev pub is_digest : List ℕ → List ℕ → Bool
is_digest body digest = bytes_eq digest (sha256 body)

-- whether the names are a listing
abbrev pub is_listing : Names → Bool
is_listing names = is_none (names_fault names.symbols names.participants)

-- a header at the front of bytes; it is damaged if its digest is another, or if the names are no listing
unfoldable pub header_at : List ℕ → Result ReadHeader JournalHeaderFault
header_at bytes = do
  terms ← terms_at bytes
  digest ← bytes_at Short 32 terms.1
  if is_digest (take (length bytes - length terms.1) bytes) digest.0 && is_listing terms.0.listing then Ok (terms.0, (digest.0, digest.1)) else Err Damaged

-- what is spelled is read back with its digest, whatever follows it
abbrev pub HeadersAreRead : Type 0
HeadersAreRead = (d : Day) (rest : List ℕ) → AreTerms d → header_at (header_text d ++ rest) ≡ Ok (d, (header_digest d, rest))
