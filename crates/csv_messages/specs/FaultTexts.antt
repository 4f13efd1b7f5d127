-- The text of a field that was refused, as a fault keeps and prints it.
use Rattle.std.specs.Prelude.{ℕ, ◌/◌, ◌%◌, ◌==◌, ◌&&◌, ◌||◌, ◌++◌, Bool, false, not, nat_le, nat_lt, List, [], ◌∷◌, length, take, Option, Some, None, codes, decimal, find, slice_set, if◌then◌else◌}
use Rattle.std.specs.List.{flat_map, list_any}
use Rattle.std.specs.Fmt.{digit_glyph}
use Rattle.std.specs.Option.{option_map_or}
use Rattle.reports.specs.Texts.{is_condition}
use Rattle.csv_messages.specs.Texts.{code_of}

-- how many bytes of a field are printed
abbrev pub SHOWN_MOST : ℕ
SHOWN_MOST = 40

-- how many bytes of a field a fault keeps: one more, which says that the field is cut
abbrev pub FAULT_TEXT_MOST : ℕ
FAULT_TEXT_MOST = 41

-- printable ASCII except the quotation mark and the backslash
abbrev pub stands_as_it_is : ℕ → Bool
stands_as_it_is byte = nat_le 32 byte && (nat_le byte 126 && (not (byte == 34) && not (byte == 92)))

-- a byte as it is printed: as it is, or `\x` and two hexadecimal digits
abbrev pub shown_byte : ℕ → List ℕ
shown_byte byte = if stands_as_it_is byte then byte ∷ [] else 92 ∷ 120 ∷ digit_glyph false (byte / 16) ∷ digit_glyph false (byte % 16) ∷ []

-- a text as it is printed
abbrev pub shown : List ℕ → List ℕ
shown text = flat_map shown_byte (take SHOWN_MOST text)

-- the quotation mark behind a text, with two dots after it if the text is cut
abbrev pub quote_end : List ℕ → List ℕ
quote_end text = if nat_lt SHOWN_MOST (length text) then codes "\".." else codes "\""

-- a text between quotation marks
abbrev pub quoted : List ℕ → List ℕ
quoted text = codes "\"" ++ (shown text ++ quote_end text)

-- ## A code of a condition

-- a byte is a code of this position, from 0: a plain trade's codes with this one replaced make a condition
abbrev pub is_code_at : ℕ → ℕ → Bool
is_code_at place byte = not (byte == 32) && is_condition (slice_set (codes "@   ") place (code_of byte))

-- the first of four bytes that is no code of its position, with the position from 1, if any; none of another number of bytes
unfoldable pub bad_code : List ℕ → Option (ℕ × ℕ)
bad_code [] = None
bad_code (a ∷ []) = None
bad_code (a ∷ b ∷ []) = None
bad_code (a ∷ b ∷ c ∷ []) = None
bad_code (a ∷ b ∷ c ∷ d ∷ []) =
    if not (is_code_at 0 a) then Some (1, a)
    else if not (is_code_at 1 b) then Some (2, b)
    else if not (is_code_at 2 c) then Some (3, c)
    else if not (is_code_at 3 d) then Some (4, d)
    else None
bad_code (a ∷ b ∷ c ∷ d ∷ e ∷ rest) = None

-- that a byte is no code of a position, from 1
abbrev pub no_code_text : ℕ × ℕ → List ℕ
no_code_text (position, byte) = codes ": \"" ++ (shown_byte byte ++ (codes "\" is no code of position " ++ decimal position))

-- which code of a condition is wrong, if it is one of four
abbrev pub bad_code_text : List ℕ → List ℕ
bad_code_text text = option_map_or no_code_text (bad_code text) []

-- ## A quotation mark that is not closed

-- a line feed or a carriage return
abbrev pub is_line_end : ℕ → Bool
is_line_end byte = (byte == 10) || (byte == 13)

-- a field has a line end, so it is in quotation marks, or the second of these is missing
abbrev pub has_line_end : List ℕ → Bool
has_line_end text = list_any is_line_end text

-- that a field has a line end
abbrev pub line_end_text : Bool → List ℕ
line_end_text found = if found then codes "; a quote is not closed, or a field has a line end" else []

-- ## A name that is no column's

-- the first two bytes of a file that gzip made
abbrev pub is_gzip : List ℕ → Bool
is_gzip [] = false
is_gzip (a ∷ []) = false
is_gzip (a ∷ b ∷ rest) = (a == 31) && (b == 139)

-- the first two bytes of a text in UTF-16: a byte order mark, or a character of ASCII
abbrev pub is_utf16 : List ℕ → Bool
is_utf16 [] = false
is_utf16 (a ∷ []) = false
is_utf16 (a ∷ b ∷ rest) = ((a == 255) && (b == 254)) || (((a == 254) && (b == 255)) || ((a == 0) || (b == 0)))

-- a byte by which other tables separate names: a semicolon, a tab or a vertical bar
abbrev pub is_separator : ℕ → Bool
is_separator byte = (byte == 59) || ((byte == 9) || (byte == 124))

-- a separator in words
abbrev pub separator_name : ℕ → List ℕ
separator_name byte = if byte == 59 then codes "a semicolon" else if byte == 9 then codes "a tab" else codes "a vertical bar"

-- that commas are wanted between names, and which separator was found
abbrev pub found_text : ℕ → List ℕ
found_text byte = codes "; names have commas between them, and here stands " ++ separator_name byte

-- how a name would be skipped
abbrev pub skipped_text : List ℕ → List ℕ
skipped_text name = codes "; names are in lower case, and #" ++ (shown name ++ codes " would be skipped")

-- a comma or a line end, which a name has only in quotation marks
abbrev pub is_break : ℕ → Bool
is_break byte = (byte == 44) || is_line_end byte

-- what a name suggests: a quotation mark that is not closed, another separator, or a column to be skipped
abbrev pub name_text : List ℕ → List ℕ
name_text name =
    if list_any is_break name then codes "; a quote is not closed, or a name has a comma or a line end"
    else option_map_or found_text (find is_separator name) (skipped_text name)

-- what a name that is no column's suggests
abbrev pub hint_text : List ℕ → List ℕ
hint_text name =
    if is_gzip name then codes "; the table is compressed: pipe it through gzip -dc"
    else if is_utf16 name then codes "; the table is in UTF-16: pipe it through iconv -f UTF-16 -t UTF-8"
    else name_text name
