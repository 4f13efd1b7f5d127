-- The files that arguments name.
use Rattle.std.specs.Prelude.{◌≡◌, ℕ, Bool, true, false, drop, get_or, List, [], Option, Some, None, IfOk, IfErr, Result}
use Rattle.std.specs.Option.{unwrap_or}
use Rattle.std.specs.IoError.{error_kind}
use Rattle.std.specs.Path.{path_join, path_parent}
use Rattle.std.specs.Fs.{IsDir, IsFile, file_type, metadata_len}
use Rattle.std.specs.declared.fs.Metadata.{Metadata}
use Rattle.std.specs.declared.io.Error.{Error}
use Rattle.std.specs.declared.io.ErrorKind.TheVariants.{IsADirectory}
use Rattle.day_terms.specs.Arguments.{words_of}
use Rattle.command_line.specs.declared.command.Command.{Command}
use Rattle.command_line.specs.declared.command.Command.TheVariants.{Tape, Explain}

-- the argument after the word at a place, counted from 0
abbrev pub argument_in : List ℕ → ℕ → List ℕ
argument_in words place = get_or (drop 1 (words_of words)) place []

-- whether a text has a row of each message or of each report
abbrev pub has_rows : Command → Bool
has_rows (Tape matrix strict) = true
has_rows (Explain matrix strict) = true
has_rows _ = false

-- the most bytes that a file of a day or of its symbols may have
abbrev pub FILE_MOST : ℕ
FILE_MOST = 16777216

-- the path of a file whose name starts at the folder of another file, unless it is an absolute path
abbrev pub beside_path : List ℕ → List ℕ → List ℕ
beside_path name file = path_join (unwrap_or (path_parent file) []) name

-- the length of a file is known, unless it is a pipe or a device; a folder is an error
pub record KnowsLength (metadata : Metadata) (found : Result (Option ℕ) Error) : Type 0 where
  pub no_folder : IfOk found (λ length. IsDir (file_type metadata) → ⊥)
  pub folder : IfErr found (λ error. IsDir (file_type metadata) × (error_kind error ≡ IsADirectory))
  pub file : IfOk found (λ length. IsFile (file_type metadata) → length ≡ Some (metadata_len metadata))
  pub other : IfOk found (λ length. (IsFile (file_type metadata) → ⊥) → length ≡ None)
