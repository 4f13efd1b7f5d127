-- What a day's file says, key by key, or the first fault.
use Rattle.std.specs.Prelude.{◌+◌, ◌==◌, ◌++◌, ℕ, suc, zero, Bool, true, List, [], ◌∷◌, length, Option, Some, None, Result, Ok, Err, nat_eq, nat_le, if◌then◌else◌, string_bytes}
use Rattle.std.specs.Option.{option_map}
use Rattle.tape_types.specs.Names.{has_repeat}
use Rattle.sale_matrix.specs.declared.matrix.Matrix.{Matrix}
use Rattle.sale_matrix.specs.declared.matrix.Matrix.TheVariants.{One, Two}
use Rattle.toml.specs.Data.{Data, Members, string, get_member}
use Rattle.day_terms.specs.Values.{LIMIT_LEFT_OUT}
use Rattle.day_terms.specs.Entries.{boolean_at, entries_at, participant_at, port_at, symbol_at, text_at}
use Rattle.day_terms.specs.Faults.{Fault, ◌>>=◌, out_of_range, port_past_last, port_twice, uneven}
use Rattle.day_terms.specs.Keys.{key_text}
use Rattle.day_terms.specs.Numbers.{number_at}
use Rattle.day_terms.specs.Tables.{known_keys, required, table_of}
use Rattle.day_terms.specs.declared.day_file.DayControl.{DayControl}
use Rattle.day_terms.specs.declared.day_file.DayControl.TheVariants as control
use Rattle.day_terms.specs.declared.day_file.DayFile.{DayFile}
use Rattle.day_terms.specs.declared.day_file.DaySymbols.{DaySymbols}
use Rattle.day_terms.specs.declared.day_file.DaySymbols.TheVariants as read
use Rattle.day_terms.specs.declared.day_key.DayKey.{DayKey}
use Rattle.day_terms.specs.declared.day_key.DayKey.TheVariants as keys
use Rattle.day_terms.specs.declared.place.FilePlace.TheVariants.{At}

-- the symbols, or the name of their file
pub data NamedSymbols : Type 0 where
  listed : List (List ℕ) → NamedSymbols
  in_file : List ℕ → NamedSymbols

-- where a control socket is: at a port or at a path
pub data ControlPlace : Type 0 where
  at_port : ℕ → ControlPlace
  at_path : List ℕ → ControlPlace

-- a day as its file describes it
pub record FileDay : Type 0 where
  pub symbols : NamedSymbols
  pub participants : List ℕ
  pub port : ℕ
  pub a : List ℕ
  pub b : List ℕ
  pub retransmission : ℕ
  pub followers : ℕ
  pub session : ℕ
  pub matrix : Matrix
  pub limit : ℕ
  pub connect_within : Option ℕ
  pub followers_wait : Option ℕ
  pub control : Option ControlPlace
  pub journal : Option (List ℕ)
  pub journal_sync : Bool

-- the symbols that were read
abbrev pub symbols_view : DaySymbols → NamedSymbols
symbols_view (read.Listed symbols) = listed symbols.items
symbols_view (read.InFile name) = in_file (string_bytes name)

-- the control socket that was read
abbrev pub control_view : DayControl → ControlPlace
control_view (control.Port port) = at_port port
control_view (control.Path path) = at_path (string_bytes path)

-- the day that was read
abbrev pub day_view : DayFile → FileDay
day_view day = record {
  symbols = symbols_view day.symbols;
  participants = day.participants.items;
  port = day.port;
  a = day.a.items;
  b = day.b.items;
  retransmission = day.retransmission;
  followers = day.followers;
  session = day.session;
  matrix = day.matrix;
  limit = day.limit;
  connect_within = day.connect_within;
  followers_wait = day.followers_wait;
  control = option_map control_view day.control;
  journal = option_map string_bytes day.journal;
  journal_sync = day.journal_sync;
}

-- the symbols of a value; a string is a file's name
unfoldable pub symbols_at : Data → Result NamedSymbols Fault
symbols_at (string name) = Ok (in_file name)
symbols_at value = do
  symbols ← entries_at symbol_at keys.Symbols value
  Ok (listed symbols)

-- the ports at a key
unfoldable pub ports_in : DayKey → Members → Result (List ℕ) Fault
ports_in key table = do
  value ← required key table
  entries_at port_at key value

-- the number at a key
unfoldable pub number_in : DayKey → Members → Result ℕ Fault
number_in key table = do
  value ← required key table
  number_at key (At key) value

-- the number at a key that may be left out
abbrev pub number_or : ℕ → DayKey → Option Data → Result ℕ Fault
number_or left_out key None = Ok left_out
number_or left_out key (Some value) = number_at key (At key) value

-- a matrix by its number
abbrev pub matrix_numbered : ℕ → Matrix
matrix_numbered (suc zero) = One
matrix_numbered _ = Two

-- the matrix, which is One if it is left out
unfoldable pub matrix_in : Members → Result Matrix Fault
matrix_in table = do
  number ← number_or 1 keys.Matrix (get_member (key_text keys.Matrix) table)
  Ok (matrix_numbered number)

-- the limit, which is that of a day's arguments if it is left out
unfoldable pub limit_in : Members → Result ℕ Fault
limit_in table = number_or LIMIT_LEFT_OUT keys.Limit (get_member (key_text keys.Limit) table)

-- what a key that may be left out has
abbrev pub if_there : {A : Type 0} → (Data → Result A Fault) → Option Data → Result (Option A) Fault
if_there read None = Ok None
if_there read (Some value) = do
  said ← read value
  Ok (Some said)

-- a number of seconds that may be left out
unfoldable pub seconds_in : DayKey → Members → Result (Option ℕ) Fault
seconds_in key table = if_there (number_at key (At key)) (get_member (key_text key) table)

-- where a control socket is; a string is a path, which is not empty
unfoldable pub control_at : Data → Result ControlPlace Fault
control_at (string []) = Err (out_of_range (At keys.Control))
control_at (string (byte ∷ path)) = Ok (at_path (byte ∷ path))
control_at value = do
  port ← number_at keys.Control (At keys.Control) value
  Ok (at_port port)

-- where the control socket is, if there is one
unfoldable pub control_in : Members → Result (Option ControlPlace) Fault
control_in table = if_there control_at (get_member (key_text keys.Control) table)

-- where the journal is: a path, which is not empty
unfoldable pub journal_at : Data → Result (List ℕ) Fault
journal_at (string []) = Err (out_of_range (At keys.Journal))
journal_at value = text_at (At keys.Journal) value

-- where the journal is, if one is kept
unfoldable pub journal_in : Members → Result (Option (List ℕ)) Fault
journal_in table = if_there journal_at (get_member (key_text keys.Journal) table)

-- whether a journal is synced, which is true if it is left out
abbrev pub sync_or : Option Data → Result Bool Fault
sync_or None = Ok true
sync_or (Some value) = boolean_at (At keys.JournalSync) value

-- whether the journal is synced
unfoldable pub sync_in : Members → Result Bool Fault
sync_in table = sync_or (get_member (key_text keys.JournalSync) table)

-- the day, if no port of lines A and B stands twice, and each participant has a port
abbrev pub with_ports : FileDay → Result FileDay Fault
with_ports day =
    if has_repeat nat_eq (day.a ++ day.b)
    then Err port_twice
    else (if nat_le (day.port + length day.participants) 65536 then Ok day else Err port_past_last)

-- the day, if line B also has as many ports as line A
abbrev pub agreed : FileDay → Result FileDay Fault
agreed day = if length day.b == length day.a then with_ports day else Err uneven

-- the day of a table of known keys, which are read in this order
unfoldable pub day_in : Members → Result FileDay Fault
day_in table = do
  of_symbols ← required keys.Symbols table
  symbols ← symbols_at of_symbols
  of_participants ← required keys.Participants table
  participants ← entries_at participant_at keys.Participants of_participants
  port ← number_in keys.Port table
  a ← ports_in keys.A table
  b ← ports_in keys.B table
  retransmission ← number_in keys.Retransmission table
  followers ← number_in keys.Followers table
  session ← number_in keys.Session table
  matrix ← matrix_in table
  limit ← limit_in table
  connect_within ← seconds_in keys.ConnectWithin table
  followers_wait ← seconds_in keys.FollowersWait table
  control ← control_in table
  journal ← journal_in table
  journal_sync ← sync_in table
  agreed (record {
    symbols = symbols;
    participants = participants;
    port = port;
    a = a;
    b = b;
    retransmission = retransmission;
    followers = followers;
    session = session;
    matrix = matrix;
    limit = limit;
    connect_within = connect_within;
    followers_wait = followers_wait;
    control = control;
    journal = journal;
    journal_sync = journal_sync;
  })

-- the day that a text describes, or its first fault
unfoldable pub day_of : List ℕ → Result FileDay Fault
day_of text = do
  table ← table_of text
  known ← known_keys table
  day_in table
