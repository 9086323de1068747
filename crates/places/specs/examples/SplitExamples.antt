-- Examples of the points of split cells: a cell's counts and first numbers, and the bits of the numbers of its inner crossings and then of the middles of its
-- fans. The bits are those of a program written from 02 alone.
use Rattle.std.specs.Prelude.{ℕ, ◌≡◌, List, [], ◌∷◌, ◌++◌, map, Float}
use Rattle.std.specs.Float.{binary64}
use Rattle.std.specs.Float.Ieee.{div, neg, of_bits}
use Rattle.place.specs.Place.{float_of, all_numbers}
use Rattle.cell.specs.declared.Cell.{Cell}
use Rattle.split.specs.Standing.{inner_places, drawn_middles}
use Rattle.places.specs.Nested.{nested_middle}

pub record Example : Type 0 where
  pub counts : List ℕ
  pub starts : List ℕ
  pub inner : List ℕ
  pub middles : List ℕ

-- places of four nodes, in tenths, at which the order of operations shows in the last digit
abbrev tenths : ℕ → Float
tenths a = div binary64 (float_of a) (float_of 10)

abbrev less : ℕ → Float
less a = neg (tenths a)

abbrev nodes : List Float
nodes =
    tenths 2 ∷ less 16 ∷ tenths 26
    ∷ tenths 11 ∷ tenths 28 ∷ tenths 24
    ∷ less 22 ∷ less 26 ∷ less 29
    ∷ tenths 17 ∷ less 23 ∷ tenths 18 ∷ []

unfoldable pub examples : List Example
examples =
    -- d1 = 4, d2 = 2: one split, 12 inner crossings; two middles of the sub-cell that omits l, and two of the one that omits k
    record {
      counts = 4 ∷ 2 ∷ 6 ∷ 6 ∷ 2 ∷ 4 ∷ [];
      starts = 0 ∷ 4 ∷ 6 ∷ 12 ∷ 18 ∷ 20 ∷ [];
      inner =
          0x3fc9999999999998 ∷ 0xbff0f5c28f5c28f6 ∷ 0x3ff4cccccccccccd ∷ 0x3fc9999999999999 ∷ 0xbff31eb851eb851f ∷ 0x3ffa000000000000
          ∷ 0x3fc9999999999999 ∷ 0xbff547ae147ae148 ∷ 0x3fff333333333334 ∷ 0x3fc999999999999a ∷ 0xbff770a3d70a3d71 ∷ 0x4002333333333334
          ∷ 0x3fd851eb851eb852 ∷ 0xbfc70a3d70a3d70c ∷ 0x3ff428f5c28f5c29 ∷ 0x3fe1eb851eb851ec ∷ 0x3fe2147ae147ae14 ∷ 0x3ff8b851eb851eb8
          ∷ 0x3fe7ae147ae147ae ∷ 0x3ff4f5c28f5c28f5 ∷ 0x3ffd47ae147ae148 ∷ 0x3fed70a3d70a3d72 ∷ 0x400070a3d70a3d70 ∷ 0x4000eb851eb851ec
          ∷ 0xbfe3333333333334 ∷ 0xbff7bbbbbbbbbbbc ∷ 0xbfd4444444444440 ∷ 0xbff6666666666667 ∷ 0xc000555555555556 ∷ 0xbff9bbbbbbbbbbba
          ∷ 0x3fe6666666666666 ∷ 0xbff6222222222222 ∷ 0x3ff4000000000000 ∷ 0x3ff3333333333333 ∷ 0xbffd777777777777 ∷ 0x3ff8666666666666 ∷ [];
      middles =
          0xbfd3333333333334 ∷ 0xbfd6aaaaaaaaaaae ∷ 0x3fdb777777777778 ∷ 0xbfa999999999999c ∷ 0xbfe9dddddddddde0 ∷ 0x3ff1bbbbbbbbbbbc
          ∷ 0x3fe8000000000000 ∷ 0xbf999999999999a0 ∷ 0x3ffdbbbbbbbbbbbc ∷ 0x3feb333333333333 ∷ 0xbfef999999999999 ∷ 0x40003bbbbbbbbbbc ∷ [];
    }
    -- 6 and 2: a split within a split, 16 and 12 inner crossings; two middles of each of three nests
    ∷ record {
      counts = 6 ∷ 2 ∷ 8 ∷ 8 ∷ 2 ∷ 6 ∷ [];
      starts = 0 ∷ 6 ∷ 8 ∷ 16 ∷ 24 ∷ 26 ∷ [];
      inner =
          0x3fc9999999999998 ∷ 0xbff0f5c28f5c28f6 ∷ 0x3ff4cccccccccccd ∷ 0x3fc9999999999999 ∷ 0xbff31eb851eb851f ∷ 0x3ffa000000000000
          ∷ 0x3fc9999999999999 ∷ 0xbff547ae147ae148 ∷ 0x3fff333333333334 ∷ 0x3fc999999999999a ∷ 0xbff770a3d70a3d71 ∷ 0x4002333333333334
          ∷ 0x3fd5075075075074 ∷ 0xbfd924924924924c ∷ 0x3ff2db6db6db6db7 ∷ 0x3fdd41d41d41d41d ∷ 0x3fc1d41d41d41d38 ∷ 0x3ff61d41d41d41d4
          ∷ 0x3fe2be2be2be2be2 ∷ 0x3fe57c57c57c57c2 ∷ 0x3ff95f15f15f15f2 ∷ 0x3fe6db6db6db6db7 ∷ 0x3ff341d41d41d41b ∷ 0x3ffca0ea0ea0ea0e
          ∷ 0x3feaf8af8af8af8c ∷ 0x3ffbc57c57c57c57 ∷ 0x3fffe2be2be2be2c ∷ 0x3fef15f15f15f15f ∷ 0x4002249249249248 ∷ 0x4001924924924924
          ∷ 0xbfe3333333333334 ∷ 0xbff7bbbbbbbbbbbc ∷ 0xbfd4444444444440 ∷ 0xbff6666666666667 ∷ 0xc000555555555556 ∷ 0xbff9bbbbbbbbbbba
          ∷ 0x3fe0000000000000 ∷ 0xbff3333333333333 ∷ 0x3ff23d70a3d70a3e ∷ 0x3fe999999999999a ∷ 0xbff799999999999a ∷ 0x3ff4e147ae147ae2
          ∷ 0x3ff1999999999999 ∷ 0xbffc000000000000 ∷ 0x3ff7851eb851eb85 ∷ 0x3ff6666666666667 ∷ 0xc000333333333333 ∷ 0x3ffa28f5c28f5c2a
          ∷ 0x3fe5c28f5c28f5c3 ∷ 0xbfe2e147ae147ae0 ∷ 0x3ffc000000000000 ∷ 0x3fe1eb851eb851ec ∷ 0xbfe58f5c28f5c28f ∷ 0x3ff8e66666666667
          ∷ 0x3fdc28f5c28f5c29 ∷ 0xbfe83d70a3d70a3d ∷ 0x3ff5ccccccccccce ∷ 0x3fd47ae147ae147a ∷ 0xbfeaeb851eb851ec ∷ 0x3ff2b33333333334
          ∷ 0x3fef5c28f5c28f5c ∷ 0xbfebae147ae147ad ∷ 0x3ffea3d70a3d70a4 ∷ 0x3ff28f5c28f5c290 ∷ 0xbff3947ae147ae14 ∷ 0x3ffe2e147ae147ae
          ∷ 0x3ff570a3d70a3d70 ∷ 0xbff951eb851eb851 ∷ 0x3ffdb851eb851eb9 ∷ 0x3ff851eb851eb852 ∷ 0xbfff0f5c28f5c28f ∷ 0x3ffd428f5c28f5c3
          ∷ 0x3fe3333333333334 ∷ 0xbfebdddddddddddd ∷ 0x40014ccccccccccd ∷ 0x3fd999999999999a ∷ 0xbff3c44444444444 ∷ 0x40030ccccccccccd
          ∷ 0x3feccccccccccccd ∷ 0x3fe3111111111110 ∷ 0x4000c44444444444 ∷ 0x3ff0000000000000 ∷ 0x3ffb2aaaaaaaaaa9 ∷ 0x4001fbbbbbbbbbbc ∷ [];
      middles =
          0xbfd3333333333334 ∷ 0xbfd6aaaaaaaaaaae ∷ 0x3fdb777777777778 ∷ 0xbfa999999999999c ∷ 0xbfe9dddddddddde0 ∷ 0x3ff1bbbbbbbbbbbc
          ∷ 0x3fe4cccccccccccc ∷ 0xbff2088888888888 ∷ 0x3ffb4ccccccccccd ∷ 0x3fe9999999999999 ∷ 0xbff89dddddddddde ∷ 0x3fff400000000000
          ∷ 0x3ff0cccccccccccd ∷ 0xbfe3eeeeeeeeeeee ∷ 0x3ffcf77777777778 ∷ 0x3feb333333333334 ∷ 0x3fc4222222222220 ∷ 0x3ffbfbbbbbbbbbbc ∷ [];
    }
    -- 4 and 2 with k, l and j at the positions 1, 2 and 3, and a corner triangle at the nodes at 0 and 3
    ∷ record {
      counts = 3 ∷ 7 ∷ 6 ∷ 4 ∷ 7 ∷ 3 ∷ [];
      starts = 0 ∷ 3 ∷ 10 ∷ 16 ∷ 20 ∷ 27 ∷ [];
      inner =
          0x3fc9999999999998 ∷ 0xbff0f5c28f5c28f6 ∷ 0x3ff4ccccccccccce ∷ 0x3fc9999999999999 ∷ 0xbff31eb851eb851f ∷ 0x3ffa000000000001
          ∷ 0x3fc9999999999999 ∷ 0xbff547ae147ae148 ∷ 0x3fff333333333334 ∷ 0x3fc999999999999a ∷ 0xbff770a3d70a3d71 ∷ 0x4002333333333334
          ∷ 0x3fe0000000000000 ∷ 0xbff3333333333333 ∷ 0x3ff23d70a3d70a3e ∷ 0x3fe999999999999a ∷ 0xbff799999999999a ∷ 0x3ff4e147ae147ae2
          ∷ 0x3ff1999999999999 ∷ 0xbffc000000000000 ∷ 0x3ff7851eb851eb86 ∷ 0x3ff6666666666667 ∷ 0xc000333333333333 ∷ 0x3ffa28f5c28f5c2a
          ∷ 0x3fe0000000000000 ∷ 0x3fd4444444444440 ∷ 0x3ff7333333333334 ∷ 0x3fe999999999999a ∷ 0x3ff8eeeeeeeeeeed ∷ 0x3ffecccccccccccd
          ∷ 0xbfe3333333333334 ∷ 0xbff7bbbbbbbbbbbc ∷ 0xbfd444444444443e ∷ 0xbff6666666666667 ∷ 0xc000555555555556 ∷ 0xbff9bbbbbbbbbbba ∷ [];
      middles =
          0x3fefffffffffffff ∷ 0xbfd0444444444448 ∷ 0x3fffeeeeeeeeeeef ∷ 0x3fe3333333333333 ∷ 0xbfe8444444444446 ∷ 0x3ffe444444444445
          ∷ 0x3fd3333333333334 ∷ 0xbffc666666666666 ∷ 0x3fec000000000002 ∷ 0xbfd6666666666664 ∷ 0xbfff000000000000 ∷ 0x3fd7333333333338 ∷ [];
    }
    ∷ []

-- names play no part
abbrev cell_of : Example → Cell
cell_of x = record { counts = x.counts; starts = x.starts; names = 0 ∷ 0 ∷ 0 ∷ 0 ∷ []; nodes = 0 ∷ 1 ∷ 2 ∷ 3 ∷ []; index = 0 }

abbrev placed : Cell → List Float
placed c = all_numbers (inner_places nodes c ++ drawn_middles nodes c nested_middle [])

abbrev told : Example → List Float
told x = map (of_bits binary64) (x.inner ++ x.middles)

abbrev pub SplitsPlaced : Type 0
SplitsPlaced = map (λ x. placed (cell_of x)) examples ≡ map told examples
