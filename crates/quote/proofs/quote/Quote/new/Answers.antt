-- What is made is the quote of its bid and ask.
use Rattle.std.proofs.Common.{sym, ap}
use Rattle.std.specs.Option.{ok_or}
use Rattle.refusal.specs.declared.Refusal.TheVariants.{Unlawful}
use Rattle.quote.specs.QuoteLaws.{quote_of_itself}
use Rattle.quote.proofs.quote.Quote.new.Goals as goal

pub returns : goal.returns
returns c = sym (ap (λ o. ok_or o Unlawful) (quote_of_itself _))
