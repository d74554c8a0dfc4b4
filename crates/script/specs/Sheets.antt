-- What the lines of a schedule make of its sheets.
use Rattle.std.specs.Prelude.{◌≡◌, ℕ, ◌+◌, ◌-◌, ◌<◌, Bool, true, false, ◌&&◌, List, [], ◌∷◌, ◌++◌, length, slice_get, Option, Some, None, is_none}
use Rattle.calls.specs.declared.call.Turn.{Turn}
use Rattle.host.specs.declared.TableLengths.{TableLengths}
use Rattle.script.specs.declared.header.Header.{Header}
use Rattle.script.specs.declared.line.Line.{Line}
use Rattle.script.specs.declared.line.Line.TheVariants.{Tables, Call, Show}
use Rattle.script.specs.declared.line.Table.{Table}
use Rattle.script.specs.declared.sheets.Sheet.{Sheet}
use Rattle.script.specs.declared.sheets.AnySheet.{AnySheet}
use Rattle.script.specs.declared.sheets.AnySheet.TheVariants.{Quotes, Curves, Unread}

-- A sheet as its lines have made it: what its lists have in them, whatever memory they take.
pub record Lines (C : Type 0) : Type 0 where
  pub header : Header
  pub lengths : Option TableLengths
  pub turns : List (Turn C)
  pub shown : List Table

abbrev pub lines_of : {C : Type 0} → Sheet C → Lines C
lines_of sheet = record { header = sheet.header; lengths = sheet.lengths; turns = sheet.turns.items; shown = sheet.shown.items }

-- a sheet of which only the header was read
abbrev pub no_lines : {C : Type 0} → Header → Lines C
no_lines header = record { header = header; lengths = None; turns = []; shown = [] }

abbrev pub is_empty : {A : Type 0} → List A → Bool
is_empty [] = true
is_empty (first ∷ others) = false

-- whether a line may stand behind these: first the lengths, then the calls, then what is shown
abbrev pub may_stand : {C : Type 0} → Lines C → Line C → Bool
may_stand lines (Tables lengths) = is_none lines.lengths && (is_empty lines.turns && is_empty lines.shown)
may_stand lines (Call call) = is_empty lines.shown
may_stand lines (Show table) = true

-- the sheet with one line more
abbrev pub with_line : {C : Type 0} → Lines C → Line C → Lines C
with_line lines (Tables lengths) = record lines { lengths = Some lengths }
with_line lines (Call call) = record lines { turns = lines.turns ++ (record { call = call; answer = None }) ∷ [] }
with_line lines (Show table) = record lines { shown = lines.shown ++ table ∷ [] }

-- A sheet has one line more, which may stand there.
abbrev pub OneLineMore : {C : Type 0} → Lines C → Lines C → Type 0
OneLineMore {C = C} old new = (line : Line C) × (may_stand old line ≡ true) × (new ≡ with_line old line)

-- Of either kind. A sheet whose header was not read takes its lines and keeps none.
abbrev pub AnyLineMore : AnySheet → AnySheet → Type 0
AnyLineMore (Quotes old) (Quotes new) = OneLineMore (lines_of old) (lines_of new)
AnyLineMore (Curves old) (Curves new) = OneLineMore (lines_of old) (lines_of new)
AnyLineMore Unread Unread = Unit {0}
AnyLineMore old new = ⊥

-- the same lines, whatever memory they take
abbrev pub SameLines : AnySheet → AnySheet → Type 0
SameLines (Quotes old) (Quotes new) = lines_of new ≡ lines_of old
SameLines (Curves old) (Curves new) = lines_of new ≡ lines_of old
SameLines Unread Unread = Unit {0}
SameLines old new = ⊥

-- a sheet that has just begun: nothing but a header
abbrev pub IsBegun : AnySheet → Type 0
IsBegun (Quotes sheet) = lines_of sheet ≡ no_lines sheet.header
IsBegun (Curves sheet) = lines_of sheet ≡ no_lines sheet.header
IsBegun Unread = ⊥

-- The sheets that stand before the last stay as they are.
abbrev pub OthersStay : List AnySheet → List AnySheet → Type 0
OthersStay old new = (place : ℕ) → place + 1 < length old → slice_get new place ≡ slice_get old place

-- All sheets stay as they are; one more may stand behind them.
abbrev pub AllStay : List AnySheet → List AnySheet → Type 0
AllStay old new = (place : ℕ) → place < length old → slice_get new place ≡ slice_get old place

-- What became of the sheet that was the last.
abbrev pub LastBecame : (AnySheet → AnySheet → Type 0) → List AnySheet → List AnySheet → Type 0
LastBecame Became old new =
    (before after : AnySheet) → slice_get old (length old - 1) ≡ Some before → slice_get new (length old - 1) ≡ Some after → Became before after
