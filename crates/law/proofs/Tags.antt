-- Lawful tags compare as the numbers that the protocol keeps for them.
use Rattle.std.proofs.Common.{◌≡◌, ◌<◌, ◌≤◌, inl, inr, true, arith}
use Rattle.std.proofs.lemmas.Bool.Decides.{nat_tests}
use Rattle.frame.specs.declared.message.Tag.{Tag}
use Rattle.frame.specs.Lawful.{LawfulTag}
use Rattle.link.proofs.Terms.{tag_said}
use Rattle.tables.specs.Copies.{is_higher}

pub node_bounded : (tag : Tag) → LawfulTag tag → tag.node ≤ 16
node_bounded tag (inl first) = let zero_node = first.1 in omega (arith, zero_node)
node_bounded tag (inr (version, node)) = let top = node.1 in omega (arith, top)

-- by version, then by node
module _ (tag other : Tag) (bounded : tag.node ≤ 16) (bounded' : other.node ≤ 16) where
  pub higher_is_above : is_higher tag other ≡ true → tag_said other < tag_said tag
  higher_is_above higher = grind (arith, nat_tests)

  pub above_is_higher : tag_said other < tag_said tag → is_higher tag other ≡ true
  above_is_higher above = grind (arith, nat_tests)

  pub same_said : tag_said tag ≡ tag_said other → tag ≡ other
  same_said same = same_tag (omega (arith, same, bounded, bounded')) (omega (arith, same, bounded, bounded'))
    where
      same_tag : tag.version ≡ other.version → tag.node ≡ other.node → tag ≡ other
      same_tag version node i = record { version = version i; node = node i }

-- The order of tags, as it is.
pub not_higher_than_itself : (tag : Tag) → is_higher tag tag ≡ true → ⊥
not_higher_than_itself tag higher = grind (arith, nat_tests)

pub higher_goes_on : (tag other third : Tag) → is_higher tag other ≡ true → is_higher other third ≡ true → is_higher tag third ≡ true
higher_goes_on tag other third higher higher' = grind (arith, nat_tests)
