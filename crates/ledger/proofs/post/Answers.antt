use native.Mathlib.Omega.{arith}
use mathlib.Core.List.{[]}
use Rattle.ledger.proofs.Posting.{posted_one, credit_fits, debit_fits}
use Rattle.ledger.proofs.post.Goals as goal

pub raise_place-requires : goal.raise_place-requires
raise_place-requires c = (c.requires.booked.payee, omega (arith, credit_fits _ _ [] c.requires.room c.args.payee))

pub raise_place-requires-2 : goal.raise_place-requires-2
raise_place-requires-2 c = (c.requires.booked.payer, omega (arith, debit_fits _ _ [] c.requires.room c.args.payer))

pub returns : goal.returns
returns c = rw (c.raise_place.ensures, c.raise_place-2.ensures) (posted_one _ _)
