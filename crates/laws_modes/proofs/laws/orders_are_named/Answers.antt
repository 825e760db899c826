use Rattle.laws_modes.proofs.OrdersNamed
use Rattle.laws_modes.proofs.laws.orders_are_named.Goals as goal

pub returns : goal.returns
returns c = OrdersNamed.orders-are-named
