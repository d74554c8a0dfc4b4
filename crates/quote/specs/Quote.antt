-- A quote and its bytes: bid, then ask, four bytes each.
use Rattle.std.specs.Prelude.{ℕ, ◌^◌, if◌then◌else◌, List, ◌++◌, length, Some, None, codes, decimal, Option, ◌==◌}
use Rattle.std.proofs.Math.Logic.{dite}
use Rattle.std.proofs.Math.Decide.{dec_le, dec_lt}
use Rattle.quote.specs.declared.quote.Quote.{Quote}
use Rattle.content.specs.Bytes.{four_bytes, number_at}

-- the quote of a bid and an ask: there is one exactly if the bid is at most the ask and the ask has 32 bits
abbrev pub quote_of : ℕ → ℕ → Option Quote
quote_of bid ask =
    dite (dec_le bid ask)
    (λ ordered. dite (dec_lt ask (2 ^ 32)) (λ fits. Some (record { bid = bid; ask = ask; ordered = ordered; fits = fits })) (λ _. None))
    (λ _. None)

-- a quote as eight bytes
abbrev pub quote_bytes : Quote → List ℕ
quote_bytes quote = four_bytes quote.bid ++ four_bytes quote.ask

-- eight bytes are read as the quote of their bid and ask, if there is one; all other bytes are none of a quote
abbrev pub quote_read : List ℕ → Option Quote
quote_read bs = if length bs == 8 then quote_of (number_at bs 0) (number_at bs 4) else None

-- as it is printed: bid, a blank, ask
abbrev pub shown_quote : Quote → List ℕ
shown_quote quote = decimal quote.bid ++ (codes " " ++ decimal quote.ask)
