-- Tags as numbers compare as tags do, so the newer of two copies is one copy in the tables and in the protocol.
use Rattle.std.proofs.Common.{◌≡◌, ◌<◌, Bool, true, false, nat_lt, if◌then◌else◌, refl, ap, ◌∙◌, inl, inr, arith}
use Rattle.std.proofs.lemmas.Bool.Decides.{nat_tests}
use Rattle.frame.specs.declared.message.Tag.{Tag}
use Rattle.frame.specs.Lawful.{LawfulTag}
use Rattle.tables.specs.declared.copy.SheetCopy.{SheetCopy}
use Rattle.tables.specs.Copies.{is_higher, newer}
use Rattle.protocol.specs.State as protocol
use Rattle.protocol.specs.State.{version_of}
use Rattle.link.proofs.Terms.{tag_said, copy_said}

-- the node of a lawful tag has its place beside the version
node_below_32 : (tag : Tag) → LawfulTag tag → tag.node < 32
node_below_32 tag (inl opening) = omega (arith, opening.1)
node_below_32 tag (inr written) = omega (arith, written.1)

pub version_said : (tag : Tag) → LawfulTag tag → version_of (tag_said tag) ≡ tag.version
version_said tag lawful = omega (arith, node_below_32 tag lawful)

pub higher_is_above : (tag other : Tag) → LawfulTag tag → LawfulTag other → nat_lt (tag_said other) (tag_said tag) ≡ is_higher tag other
higher_is_above tag other lawful other_lawful =
    let below : tag.node < 32 = node_below_32 tag lawful in
    let other_below : other.node < 32 = node_below_32 other other_lawful in
    grind (arith, nat_tests)

said_either : (test : Bool) (one other : SheetCopy) → (if test then copy_said one else copy_said other) ≡ copy_said (if test then one else other)
said_either true one other = refl
said_either false one other = refl

pub newer_said : (old new : SheetCopy) → LawfulTag old.tag → LawfulTag new.tag → protocol.newer (copy_said old) (copy_said new) ≡ copy_said (newer old new)
newer_said old new old_lawful new_lawful =
    ap (λ test. if test then copy_said new else copy_said old) (higher_is_above new.tag old.tag new_lawful old_lawful) ∙ said_either (is_higher new.tag old.tag) new old
