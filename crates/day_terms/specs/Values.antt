-- Which texts are numbers, ports, matrices and limits.
use Rattle.std.specs.Prelude.{◌≡◌, ◌≤◌, ◌<◌, ◌^◌, ◌∷◌, [], ◌⊎◌, ℕ, List, Option, Some, None, codes, length, true, if◌then◌else◌}
use Rattle.std.specs.Char.{is_ascii_digit}
use Rattle.std.specs.List.{list_all}
use Rattle.std.specs.Str.{bytes_eq}
use Rattle.std.specs.Str.Parse.{digits_value}
use Rattle.sale_matrix.specs.declared.matrix.Matrix.{Matrix}
use Rattle.sale_matrix.specs.declared.matrix.Matrix.TheVariants.{One, Two}
use Rattle.tape_types.specs.Header.{pieces_of}
use Rattle.day_terms.specs.Arguments.{IsFirst}

-- what stands between two names or two ports of an argument: a comma
abbrev pub COMMA : ℕ
COMMA = 44

-- the limit of a tape if none is named, in entries
abbrev pub LIMIT_LEFT_OUT : ℕ
LIMIT_LEFT_OUT = 1048576

-- a word of decimal digits alone, and its number; leading zeros are allowed
pub record IsNumber (word : List ℕ) (number : ℕ) : Type 0 where
  pub some : 0 < length word
  pub digits : list_all is_ascii_digit word ≡ true
  pub value : number ≡ digits_value 10 word

-- a number that is a port
pub record IsPort (word : List ℕ) (port : ℕ) : Type 0 where
  pub number : IsNumber word port
  pub some : 1 ≤ port
  pub most : port < 2 ^ 16

-- each text is the port at its place
abbrev pub NamePorts : List (List ℕ) → List ℕ → Type 0
NamePorts [] [] = Unit {0}
NamePorts [] (port ∷ ports) = ⊥
NamePorts (text ∷ texts) [] = ⊥
NamePorts (text ∷ texts) (port ∷ ports) = IsPort text port × NamePorts texts ports

-- ports with single commas between them
abbrev pub ListPorts : List ℕ → List ℕ → Type 0
ListPorts text ports = NamePorts (pieces_of COMMA text) ports

-- a text that lists ports, whichever they are
abbrev pub ListSomePorts : List ℕ → Type 0
ListSomePorts text = (ports : List ℕ) × ListPorts text ports

-- a matrix by its number
abbrev pub IsMatrix : List ℕ → Matrix → Type 0
IsMatrix word One = word ≡ codes "1"
IsMatrix word Two = word ≡ codes "2"

-- the matrix of a number
abbrev pub matrix_named : List ℕ → Option Matrix
matrix_named word = if bytes_eq word (codes "1") then Some One else if bytes_eq word (codes "2") then Some Two else None

-- the first three arguments are the ports of both lines and of the retransmission
pub record ArePorts (words left : List (List ℕ)) (lines : List ℕ) (retransmission : ℕ) : Type 0 where
  pub a : ℕ
  pub b : ℕ
  pub behind_a : List (List ℕ)
  pub behind_b : List (List ℕ)
  pub first : IsFirst IsPort words behind_a a
  pub second : IsFirst IsPort behind_a behind_b b
  pub third : IsFirst IsPort behind_b left retransmission
  pub lines_are : lines ≡ a ∷ b ∷ []

-- the first argument is a matrix, which is One if no argument is left
abbrev pub IsMatrixOrOne : List (List ℕ) → List (List ℕ) → Matrix → Type 0
IsMatrixOrOne words left matrix = ((words ≡ []) × (left ≡ []) × (matrix ≡ One)) ⊎ IsFirst IsMatrix words left matrix

-- the first argument is a limit, which is the default one if no argument is left
abbrev pub IsLimitOrLeftOut : List (List ℕ) → List (List ℕ) → ℕ → Type 0
IsLimitOrLeftOut words left limit = ((words ≡ []) × (left ≡ []) × (limit ≡ LIMIT_LEFT_OUT)) ⊎ IsFirst IsNumber words left limit
