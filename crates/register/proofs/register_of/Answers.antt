-- `register::register_of` meets its contract.
use Rattle.register.proofs.Size.{made}
use Rattle.register.proofs.register_of.Goals as goal

pub returns : goal.returns
returns c = made c.args.bytes.now _ _ _ c.count-n.ensures c.padded.ensures c.padded-2.ensures
