-- The worked examples of docs/contents.md and docs/quorum-rules.md, as equations of the definitions that the library's contracts cite.
use Rattle.std.specs.Prelude.{◌≡◌, ℕ, ◌<◌, true, false, List, [], ◌∷◌, pos, negsuc, Some, None, Ok, Err, count_ones, codes, map}
use Rattle.std.specs.Option.{option_map}
use Rattle.refusal.specs.declared.Refusal.TheVariants.{NoSlot, Unlawful, TooFewSlots}
use Rattle.refusal.specs.Numbers.{number, shown_refusal}
use Rattle.quote.specs.Quote.{quote_of, quote_bytes, quote_read, shown_quote}
use Rattle.curve.specs.Curve.{rates, curve_bytes, curve_read, shown_curve}
use Rattle.quorum.specs.Rules.{more_than_half, outweighs_half, weighted}

-- the bytes of the quote 500, 510, and those with its bid and ask exchanged
abbrev pub bytes_500_510 : List ℕ
bytes_500_510 = 0x00 ∷ 0x00 ∷ 0x01 ∷ 0xF4 ∷ 0x00 ∷ 0x00 ∷ 0x01 ∷ 0xFE ∷ []

abbrev pub bytes_510_500 : List ℕ
bytes_510_500 = 0x00 ∷ 0x00 ∷ 0x01 ∷ 0xFE ∷ 0x00 ∷ 0x00 ∷ 0x01 ∷ 0xF4 ∷ []

-- the bytes of the curve -25, 10, 130, 275
abbrev pub bytes_of_curve : List ℕ
bytes_of_curve = 0xFF ∷ 0xFF ∷ 0xFF ∷ 0xE7 ∷ 0x00 ∷ 0x00 ∷ 0x00 ∷ 0x0A ∷ 0x00 ∷ 0x00 ∷ 0x00 ∷ 0x82 ∷ 0x00 ∷ 0x00 ∷ 0x01 ∷ 0x13 ∷ []

-- seven weights that begin so
abbrev pub weights_from : ℕ → ℕ → ℕ → List ℕ
weights_from first second third = first ∷ second ∷ third ∷ 0 ∷ 0 ∷ 0 ∷ 0 ∷ []

pub record WorkedExamples : Type 0 where
  -- The quote 500, 510 is written so; a bid of 510 over an ask of 500 makes none, and its bytes are none of a quote's.
  pub quote_written : option_map quote_bytes (quote_of 500 510) ≡ Some bytes_500_510
  pub exchanged_not_made : quote_of 510 500 ≡ None
  pub exchanged_not_read : quote_read bytes_510_500 ≡ None
  -- It is printed as bid and ask with a blank between them.
  pub quote_printed : option_map shown_quote (quote_of 500 510) ≡ Some (codes "500 510")
  -- The curve -25, 10, 130, 275 and its bytes tell each other.
  pub curve_read_so : option_map rates (curve_read bytes_of_curve) ≡ Some (negsuc 24 ∷ pos 10 ∷ pos 130 ∷ pos 275 ∷ [])
  pub curve_written_so : option_map curve_bytes (curve_read bytes_of_curve) ≡ Some bytes_of_curve
  pub curve_printed : option_map shown_curve (curve_read bytes_of_curve) ≡ Some (codes "-25 10 130 275")
  -- Majority at size 4: any two places lose, any three win.
  pub two_of_four_lose : (set : ℕ) → set < 16 → count_ones set ≡ 2 → more_than_half 4 set ≡ false
  pub three_of_four_win : (set : ℕ) → set < 16 → count_ones set ≡ 3 → more_than_half 4 set ≡ true
  -- Weights 3, 1, 1 at size 3: the first alone wins, the others together lose. Weights 0, 1, 1 make no rule.
  pub first_alone_wins : outweighs_half (weights_from 3 1 1) 3 1 ≡ true
  pub others_together_lose : outweighs_half (weights_from 3 1 1) 3 6 ≡ false
  pub weightless_first_refused : weighted (weights_from 0 1 1) ≡ Err Unlawful
  -- A place may weigh 100 and not 101.
  pub heaviest_taken : weighted (weights_from 100 1 100) ≡ Ok (weights_from 100 1 100)
  pub too_heavy_refused : weighted (weights_from 3 1 101) ≡ Err Unlawful
  -- What is made outside its bounds is refused with 13.
  pub refused_with_13 : number Unlawful ≡ 13
  -- Refusals are printed so.
  pub refusals_printed : map shown_refusal (NoSlot ∷ Unlawful ∷ TooFewSlots ∷ []) ≡ codes "3: slot too high or empty" ∷ codes "13: outside its bounds" ∷ codes "19: too few empty slots" ∷ []
