-- `tree::write_route` goes by the nodes left to go. Assumes nothing.
use Rattle.tree.proofs.+write_route.Given as goal

abbrev pub decreases-write_route : goal.decreases-write_route
decreases-write_route l = l.left
