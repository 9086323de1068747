use native.Mathlib.Omega.{arith}
use Rattle.split.proofs.Coded.{place-at, place_left}
use Rattle.split.proofs.Spiral.place_of.Goals as goal

pub returns-then-self-m : goal.returns-then-self-m
returns-then-self-m c = (place-at c.args.self.spiraling 1 _ (omega arith) c.if-self-m.true, omega arith)

pub returns-then-self-m-2 : goal.returns-then-self-m-2
returns-then-self-m-2 c = (place-at c.args.self.spiraling 2 _ (omega arith) c.if-self-m-2.true, omega arith)

pub returns-then-self-m-3 : goal.returns-then-self-m-3
returns-then-self-m-3 c = (place-at c.args.self.spiraling 3 _ (omega arith) c.if-self-m-3.true, omega arith)

pub returns-else-self-m-3 : goal.returns-else-self-m-3
returns-else-self-m-3 c = (place_left c.args.self.spiraling _ c.requires.m_bound (λ e. c.if-self-m.false e) (λ e. c.if-self-m-2.false e) (λ e. c.if-self-m-3.false e), omega arith)
