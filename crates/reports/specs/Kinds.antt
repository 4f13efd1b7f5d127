-- The kinds of messages, each by the byte that its body begins with, and how long their bodies are.
use Rattle.std.specs.Prelude.{ℕ}

-- the kind of a report: 'R'
abbrev pub REPORT : ℕ
REPORT = 82

-- the kind of a cancel: 'X'
abbrev pub CANCEL : ℕ
CANCEL = 88

-- the kind of a correction: 'C'
abbrev pub CORRECTION : ℕ
CORRECTION = 67

-- the kind of a reinstatement: 'S'
abbrev pub REINSTATEMENT : ℕ
REINSTATEMENT = 83

-- how many bytes the body of a report has
abbrev pub REPORT_LENGTH : ℕ
REPORT_LENGTH = 38

-- how many bytes the body of a cancel has
abbrev pub CANCEL_LENGTH : ℕ
CANCEL_LENGTH = 26

-- how many bytes the body of a correction has
abbrev pub CORRECTION_LENGTH : ℕ
CORRECTION_LENGTH = 42

-- how many bytes the body of a reinstatement has
abbrev pub REINSTATEMENT_LENGTH : ℕ
REINSTATEMENT_LENGTH = 26
