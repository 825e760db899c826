use Rattle.laws_order.proofs.Tidying.{orders-stay-tidy}
use Rattle.laws_order.proofs.laws.orders_stay_tidy.Goals as goal

pub returns : goal.returns
returns c = orders-stay-tidy
