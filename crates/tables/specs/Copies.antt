-- Copies of a sheet, and how their tags compare.
use Rattle.std.specs.Prelude.{ℕ, Bool, ◌&&◌, ◌||◌, List, take, ◌==◌, nat_lt, if◌then◌else◌}
use Rattle.content.specs.Bytes.{padded, widest}
use Rattle.frame.specs.declared.message.Tag.{Tag}
use Rattle.tables.specs.declared.copy.SheetCopy.{SheetCopy}

-- Tags compare by version first, then by node.
abbrev pub is_higher : Tag → Tag → Bool
is_higher tag other = nat_lt other.version tag.version || other.version == tag.version && nat_lt other.node tag.node

-- a content as it lies in a record: its bytes, then zeros up to 16
abbrev pub laid_out : List ℕ → List ℕ
laid_out content = padded (take widest content)

abbrev pub copy_of : Tag → List ℕ → SheetCopy
copy_of tag content = record { tag = tag; content = laid_out content }

-- the newer of two copies, and the old one where the other is not newer
abbrev pub newer : SheetCopy → SheetCopy → SheetCopy
newer old new = if is_higher new.tag old.tag then new else old
