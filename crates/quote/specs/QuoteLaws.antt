-- The two laws of a quote's bytes.
use Rattle.std.specs.Prelude.{◌≡◌, ◌^◌, List, ℕ, ◌++◌, length, Some, None, Option}
use Rattle.std.proofs.Common.{◌∙◌, arith}
use Rattle.std.proofs.Math.Bridge.{le_prop}
use Rattle.std.proofs.Math.Logic.{dite, dif_pos}
use Rattle.std.proofs.Math.Decide.{dec_le, dec_lt}
use Rattle.std.proofs.lemmas.Bool.Decides.{nat_tests}
use Rattle.std.proofs.lemmas.Grind.{common_steps}
use Rattle.std.proofs.lemmas.Nat.{from_be_bytes-to_be_bytes_4}
use Rattle.quote.specs.declared.quote.Quote.{Quote}
use Rattle.content.specs.Bytes.{AllBytes, four_bytes, number_at}
use Rattle.quote.specs.Quote.{quote_of, quote_bytes, quote_read}

-- a quote is the one of its bid and ask
pub quote_of_itself : (quote : Quote) → quote_of quote.bid quote.ask ≡ Some quote
quote_of_itself quote =
    dif_pos (dec_le quote.bid quote.ask) le_prop quote.ordered _ _
    ∙ dif_pos (dec_lt quote.ask (2 ^ 32)) le_prop quote.fits _ _

-- what a test gave that else gives none, it gave where it holds
given_by : {P X : Type 0} (d : Dec P) (f : P → Option X) (x : X) → dite d f (λ _. None) ≡ Some x → (p : P) × (f p ≡ Some x)
given_by (yes p) f x same = (p, same)
given_by (no _) f x same = absurd cc

quote_of_parts : (quote : Quote) (bid ask : ℕ) → quote_of bid ask ≡ Some quote → (quote.bid ≡ bid) × (quote.ask ≡ ask)
quote_of_parts quote bid ask same =
    let (ordered, inner) = given_by (dec_le bid ask) _ quote same in
    let (fits, made) = given_by (dec_lt ask (2 ^ 32)) _ quote inner in
    (cc, cc)

pub quote_reads_written : (quote : Quote) → quote_read (quote_bytes quote) ≡ Some quote
quote_reads_written quote = grind (arith, quote_of_itself, from_be_bytes-to_be_bytes_4)

eight : (bs : List ℕ) → AllBytes bs → length bs ≡ 8 → four_bytes (number_at bs 0) ++ four_bytes (number_at bs 4) ≡ bs
eight bs h long = grind (arith, common_steps)

pub quote_writes_read : (bs : List ℕ) (quote : Quote) → AllBytes bs → quote_read bs ≡ Some quote → quote_bytes quote ≡ bs
quote_writes_read bs quote h read = grind (arith, nat_tests, eight, quote_of_parts)
