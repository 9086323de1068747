use mathlib.Core.Path.{refl}
use Rattle.shading.proofs.Bytes.{byte_free, root_read, child_read}
use Rattle.shading.proofs.byte_of.Goals as goal

pub returns-then-links-x : goal.returns-then-links-x
returns-then-links-x c = let a = c.args in byte_free a.links.now a.area.now a.x c.if-links-x.true

pub returns-then-p-x : goal.returns-then-p-x
returns-then-p-x c = let a = c.args in
    root_read a.links.now a.area.now a.x c.if-links-x.false _ refl c.if-p-x.true

pub returns-else-p-x : goal.returns-else-p-x
returns-else-p-x c = let a = c.args in
    child_read a.links.now a.area.now a.x c.if-links-x.false _ refl c.if-p-x.false _ refl
