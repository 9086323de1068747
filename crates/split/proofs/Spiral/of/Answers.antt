use Rattle.split.proofs.Coded.{level_listed, numbers_are}
use Rattle.split.proofs.Spiral.of.Goals as goal

pub own_of-own-requires : goal.own_of-own-requires
own_of-own-requires c = level_listed c.requires.sound c.taken_of-six.ensures

pub invariant_of-result : goal.invariant_of-result
invariant_of-result c = record {
  spiraling = record {
    sound = c.requires.sound;
    numbers = numbers_are c.requires.sound c.taken_of-six.ensures c.own_of-own.ensures c.left_of-x.ensures.0 c.left_of-y.ensures.0 c.left_of-z.ensures.0 c.median_of-larger.ensures c.smallest_of-smaller.ensures c.label_of-first.ensures c.label_of-second.ensures c.label_of-third.ensures;
    spiral = c.requires.spiral;
  };
}
