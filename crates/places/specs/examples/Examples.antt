-- Examples of the places call: a grid, node places, fractions, an area's length, the answer, and the numbers written at the area's front.
use Rattle.std.specs.Prelude.{ℕ, ◌-◌, ◌≡◌, true, false, List, [], ◌∷◌, ◌++◌, map, length, replicate, Float}
use Rattle.std.specs.Float.{nan, inf, binary64}
use Rattle.std.specs.Float.Ieee.{div, neg, of_bits}
use Rattle.answer.specs.Answer.{result_of, refusal}
use Rattle.grid.specs.Grid.{built}
use Rattle.place.specs.Place.{float_of}
use Rattle.places.specs.Answer.{places_answer, places_area}

pub record Example : Type 0 where
  pub cells : List ℕ
  pub edges : List ℕ
  pub counts : List ℕ
  pub nodes : List Float
  pub fractions : List Float
  pub room : ℕ
  pub answer : List ℕ
  pub written : List Float

-- the float nearest to a / b, one with its sign turned, and the float of a bit pattern
abbrev ratio : ℕ → ℕ → Float
ratio a b = div binary64 (float_of a) (float_of b)

abbrev tenths : ℕ → Float
tenths a = ratio a 10

abbrev less : ℕ → Float
less a = neg (tenths a)

abbrev twentieths : ℕ → Float
twentieths a = ratio a 20

abbrev bits : ℕ → Float
bits n = of_bits binary64 n

-- a fraction that serves where another thing is tried
abbrev half : Float
half = ratio 1 2

-- 1,000,000, the float after it and the float before it
abbrev million : Float
million = bits 0x412e848000000000

abbrev beyond : Float
beyond = bits 0x412e848000000001

abbrev inside : Float
inside = bits 0x412e847fffffffff

-- one cell 0 1 2 3 with the counts of 01, 02, 03, 12, 13, 23
abbrev cell : (counts : List ℕ) (nodes fractions : List Float) (room : ℕ) (answer : List ℕ) (written : List Float) → Example
cell ws ns fs r a w = record {
  cells = 0 ∷ 1 ∷ 2 ∷ 3 ∷ [];
  edges = 0 ∷ 1 ∷ 0 ∷ 2 ∷ 0 ∷ 3 ∷ 1 ∷ 2 ∷ 1 ∷ 3 ∷ 2 ∷ 3 ∷ [];
  counts = ws;
  nodes = ns;
  fractions = fs;
  room = r;
  answer = a;
  written = w;
}

-- the same without a crossing: no point, or row 16 at the node places
abbrev empty : (nodes : List Float) (answer : List ℕ) → Example
empty ns a = cell (0 ∷ 0 ∷ 0 ∷ 0 ∷ 0 ∷ 0 ∷ []) ns [] 1 a []

-- the same with crossings on 01 and 02 alone, at nodes of which both ends are in the origin: row 17, or three numbers 0 for each point
abbrev on_two : (on01 on02 : ℕ) (fractions : List Float) (answer : List ℕ) (written : List Float) → Example
on_two a b fs r w = cell (a ∷ b ∷ 0 ∷ 0 ∷ 0 ∷ 0 ∷ []) (replicate 12 (float_of 0)) fs 20 r w

-- places of four nodes, in tenths, at which the order of operations shows in the last digit
abbrev some_nodes : List Float
some_nodes =
    tenths 2 ∷ less 16 ∷ tenths 26
    ∷ tenths 11 ∷ tenths 28 ∷ tenths 24
    ∷ less 22 ∷ less 26 ∷ less 29
    ∷ tenths 17 ∷ less 23 ∷ tenths 18 ∷ []

abbrev other_nodes : List Float
other_nodes =
    tenths 20 ∷ tenths 7 ∷ less 8
    ∷ less 7 ∷ tenths 24 ∷ less 2
    ∷ less 20 ∷ tenths 18 ∷ less 5
    ∷ tenths 15 ∷ tenths 17 ∷ less 1 ∷ []

-- their placed points, as bit patterns
abbrev corner : List Float
corner =
    bits 0x3fec000000000000 ∷ bits 0x3ffb333333333334 ∷ bits 0x400399999999999a
    ∷ bits 0xbffb851eb851eb87 ∷ bits 0xc003333333333334 ∷ bits 0xbffcccccccccccce
    ∷ bits 0x3fe4cccccccccccc ∷ bits 0xbffcf5c28f5c28f6 ∷ bits 0x4002e147ae147ae2 ∷ []

abbrev quad : List Float
quad =
    bits 0xbff999999999999b ∷ bits 0xc002cccccccccccd ∷ bits 0xbff8666666666666
    ∷ bits 0x3ff6666666666667 ∷ bits 0xc00147ae147ae148 ∷ bits 0x3fff5c28f5c28f5c
    ∷ bits 0x3fbc28f5c28f5c30 ∷ bits 0x3ff2e147ae147ae0 ∷ bits 0x3fe9eb851eb851ec
    ∷ bits 0x3ff4f5c28f5c28f6 ∷ bits 0x3ff03d70a3d70a3e ∷ bits 0x4001851eb851eb85 ∷ []

abbrev folded_quad : List Float
folded_quad =
    bits 0x3fdb333333333334 ∷ bits 0xbfe0000000000000 ∷ bits 0x4004666666666666
    ∷ bits 0x3fec000000000000 ∷ bits 0x3ffb333333333334 ∷ bits 0x400399999999999a
    ∷ bits 0xbfe0a3d70a3d70a4 ∷ bits 0xbffe666666666667 ∷ bits 0x3fee666666666668
    ∷ bits 0xbffb851eb851eb87 ∷ bits 0xc003333333333334 ∷ bits 0xbffcccccccccccce
    ∷ bits 0xbfce147ae147ae18 ∷ bits 0xbfe8ccccccccccce ∷ bits 0x3ff099999999999a ∷ []

abbrev eight : List Float
eight =
    bits 0x3fed70a3d70a3d70 ∷ bits 0x3ff6147ae147ae14 ∷ bits 0xbfe1eb851eb851ec
    ∷ bits 0xbfd2e147ae147ae0 ∷ bits 0x400128f5c28f5c28 ∷ bits 0xbfd28f5c28f5c290
    ∷ bits 0xbff3333333333334 ∷ bits 0x3ff947ae147ae148 ∷ bits 0xbfe1eb851eb851ec
    ∷ bits 0x3ffc666666666666 ∷ bits 0x3ff2666666666666 ∷ bits 0xbfdf0a3d70a3d70a
    ∷ bits 0xbffbd70a3d70a3d7 ∷ bits 0x3ffeb851eb851eb8 ∷ bits 0xbfdc28f5c28f5c29
    ∷ bits 0x3ff2b851eb851eb9 ∷ bits 0x3ffce147ae147ae1 ∷ bits 0xbfbd70a3d70a3d71
    ∷ bits 0x3fb99999999999a0 ∷ bits 0x3ffbd70a3d70a3d7 ∷ bits 0xbfd0a3d70a3d70a4
    ∷ bits 0x3fef333333333334 ∷ bits 0x3ffb70a3d70a3d70 ∷ bits 0xbfc47ae147ae147a
    ∷ bits 0x3fcb47ae147ae149 ∷ bits 0x3ffadeb851eb851f ∷ bits 0xbfd6f5c28f5c28f7 ∷ []

abbrev five : List Float
five =
    bits 0x3fd199999999999a ∷ bits 0xbffa28f5c28f5c29 ∷ bits 0x40047ae147ae147b
    ∷ bits 0x3fedeb851eb851ec ∷ bits 0x40043d70a3d70a3d ∷ bits 0x4001147ae147ae14
    ∷ bits 0xbfe6e147ae147ae4 ∷ bits 0xbfc5c28f5c28f5e0 ∷ bits 0xbfe07ae147ae147c
    ∷ bits 0x3ff47ae147ae147b ∷ bits 0x3ff451eb851eb852 ∷ bits 0x4001c28f5c28f5c2
    ∷ bits 0xc0000a3d70a3d70b ∷ bits 0xc004ae147ae147ae ∷ bits 0xc00551eb851eb852
    ∷ bits 0xbfa78d4fdf3b6466 ∷ bits 0xbfbe353f7ced9173 ∷ bits 0x3fe7e76c8b43957e ∷ []

abbrev two_fans : List Float
two_fans =
    bits 0x3fe2666666666666 ∷ bits 0xbffc666666666666 ∷ bits 0x4003333333333333
    ∷ bits 0x3ff5333333333333 ∷ bits 0xc001000000000000 ∷ bits 0x4000000000000000
    ∷ bits 0x3fcb851eb851eb86 ∷ bits 0xbff81eb851eb851f ∷ bits 0x400328f5c28f5c29
    ∷ bits 0x3fd47ae147ae147b ∷ bits 0xbfeb851eb851eb85 ∷ bits 0x3feeb851eb851eba
    ∷ bits 0x3fd11eb851eb851f ∷ bits 0xbff2f0a3d70a3d71 ∷ bits 0x3ffad70a3d70a3d8
    ∷ bits 0x3fee666666666666 ∷ bits 0xbfff333333333333 ∷ bits 0x400199999999999a ∷ []

abbrev nested : List Float
nested =
    bits 0x3fd570a3d70a3d71 ∷ bits 0xbfee147ae147ae15 ∷ bits 0x40048f5c28f5c290
    ∷ bits 0x3fe1eb851eb851ec ∷ bits 0x3fc47ae147ae1480 ∷ bits 0x400428f5c28f5c29
    ∷ bits 0x3fe7ae147ae147ae ∷ bits 0x3ff0a3d70a3d70a4 ∷ bits 0x4003d70a3d70a3d7
    ∷ bits 0x3feee147ae147ae2 ∷ bits 0x40011eb851eb851f ∷ bits 0x400370a3d70a3d70
    ∷ bits 0xbfd999999999999b ∷ bits 0xbffd99999999999a ∷ bits 0x3ff399999999999a
    ∷ bits 0xbff999999999999b ∷ bits 0xc002cccccccccccd ∷ bits 0xbff8666666666666
    ∷ bits 0x3fe4cccccccccccc ∷ bits 0xbffcf5c28f5c28f6 ∷ bits 0x4002e147ae147ae2
    ∷ bits 0x3ff6666666666667 ∷ bits 0xc00147ae147ae148 ∷ bits 0x3fff5c28f5c28f5c
    ∷ bits 0x3fdc28f5c28f5c28 ∷ bits 0x3ffb851eb851eb84 ∷ bits 0x3ff570a3d70a3d70
    ∷ bits 0xbff35c28f5c28f5c ∷ bits 0xbfef5c28f5c28f5c ∷ bits 0xbff4f5c28f5c28f4
    ∷ bits 0x3ff28f5c28f5c290 ∷ bits 0x400251eb851eb852 ∷ bits 0x4002b851eb851eb8
    ∷ bits 0x3ff6e147ae147ae2 ∷ bits 0xbf747ae147ae1600 ∷ bits 0x40008f5c28f5c28f
    ∷ bits 0xc0000a3d70a3d70b ∷ bits 0xc004ae147ae147ae ∷ bits 0xc00551eb851eb852
    ∷ bits 0xbfeab851eb851eba ∷ bits 0xc003f5c28f5c28f6 ∷ bits 0xbff4147ae147ae14
    ∷ bits 0xbfd0000000000000 ∷ bits 0xc00399999999999a ∷ bits 0xbfe1999999999998
    ∷ bits 0x3ff8147ae147ae14 ∷ bits 0xc002851eb851eb85 ∷ bits 0x3ff90a3d70a3d70a
    ∷ bits 0x3fa9999999999990 ∷ bits 0xbff6eeeeeeeeeeef ∷ bits 0x3fdddddddddddde0
    ∷ bits 0x3fd6666666666666 ∷ bits 0xbfdaaaaaaaaaaaac ∷ bits 0x3ff7bbbbbbbbbbbc ∷ []

abbrev odd_face : List Float
odd_face =
    bits 0x3fd570a3d70a3d71 ∷ bits 0xbfee147ae147ae15 ∷ bits 0x40048f5c28f5c290
    ∷ bits 0x3fe1eb851eb851ec ∷ bits 0x3fc47ae147ae1480 ∷ bits 0x400428f5c28f5c29
    ∷ bits 0x3fe7ae147ae147ae ∷ bits 0x3ff0a3d70a3d70a4 ∷ bits 0x4003d70a3d70a3d7
    ∷ bits 0x3fea8f5c28f5c290 ∷ bits 0x3ff7ae147ae147ae ∷ bits 0x4003ae147ae147ae
    ∷ bits 0x3feee147ae147ae2 ∷ bits 0x40011eb851eb851f ∷ bits 0x400370a3d70a3d70
    ∷ bits 0xbfd999999999999b ∷ bits 0xbffd99999999999a ∷ bits 0x3ff399999999999a
    ∷ bits 0xbff999999999999b ∷ bits 0xc002cccccccccccd ∷ bits 0xbff8666666666666
    ∷ bits 0x3fe4cccccccccccc ∷ bits 0xbffcf5c28f5c28f6 ∷ bits 0x4002e147ae147ae2
    ∷ bits 0x3ff6666666666667 ∷ bits 0xc00147ae147ae148 ∷ bits 0x3fff5c28f5c28f5c
    ∷ bits 0x3fdc28f5c28f5c28 ∷ bits 0x3ffb851eb851eb84 ∷ bits 0x3ff570a3d70a3d70
    ∷ bits 0xbff35c28f5c28f5c ∷ bits 0xbfef5c28f5c28f5c ∷ bits 0xbff4f5c28f5c28f4
    ∷ bits 0x3ff28f5c28f5c290 ∷ bits 0x400251eb851eb852 ∷ bits 0x4002b851eb851eb8
    ∷ bits 0x3ff6e147ae147ae2 ∷ bits 0xbf747ae147ae1600 ∷ bits 0x40008f5c28f5c28f
    ∷ bits 0xc0000a3d70a3d70b ∷ bits 0xc004ae147ae147ae ∷ bits 0xc00551eb851eb852
    ∷ bits 0xbfeab851eb851eba ∷ bits 0xc003f5c28f5c28f6 ∷ bits 0xbff4147ae147ae14
    ∷ bits 0xbfd0000000000000 ∷ bits 0xc00399999999999a ∷ bits 0xbfe1999999999998
    ∷ bits 0x3ff8147ae147ae14 ∷ bits 0xc002851eb851eb85 ∷ bits 0x3ff90a3d70a3d70a
    ∷ bits 0x3fd0851eb851eb85 ∷ bits 0xbfdb28f5c28f5c2a ∷ bits 0x3ff4eb851eb851ec
    ∷ bits 0x3fbd1eb851eb851a ∷ bits 0xbff1828f5c28f5c3 ∷ bits 0x3fe44ccccccccccd ∷ []

abbrev whole : List Float
whole =
    bits 0x411e848000000000 ∷ bits 0xc11e848000000000 ∷ bits 0x400c000000000000
    ∷ bits 0xbf68000000000000 ∷ bits 0x3f74000000000000 ∷ bits 0x3f50000000000000
    ∷ bits 0x3ffff80000000000 ∷ bits 0x3ffff80000000000 ∷ bits 0x3ffff80000000000 ∷ []

-- node places that are 0 but for number i
abbrev but : ℕ → Float → List Float
but i x = replicate i (float_of 0) ++ (x ∷ replicate (11 - i) (float_of 0))

-- cells 0 1 2 4 and 0 1 2 3, two crossings on each of 03 and 04: the loop of the first cell has the higher numbers
abbrev two_cells : Example
two_cells = record {
  cells = 0 ∷ 1 ∷ 2 ∷ 4 ∷ 0 ∷ 1 ∷ 2 ∷ 3 ∷ [];
  edges = 0 ∷ 1 ∷ 0 ∷ 2 ∷ 0 ∷ 3 ∷ 0 ∷ 4 ∷ 1 ∷ 2 ∷ 1 ∷ 3 ∷ 1 ∷ 4 ∷ 2 ∷ 3 ∷ 2 ∷ 4 ∷ [];
  counts = 0 ∷ 0 ∷ 2 ∷ 2 ∷ 0 ∷ 0 ∷ 0 ∷ 0 ∷ 0 ∷ [];
  nodes = some_nodes ++ (half ∷ ratio 1 4 ∷ neg (ratio 3 2) ∷ []);
  fractions = twentieths 5 ∷ twentieths 15 ∷ twentieths 1 ∷ twentieths 8 ∷ [];
  room = 18;
  answer = result_of (6 ∷ []);
  written = two_fans;
}

-- a cell without the node 3, which has a place all the same
abbrev gap : (nodes : List Float) (answer : List ℕ) → Example
gap ns a = record {
  cells = 0 ∷ 1 ∷ 2 ∷ 4 ∷ [];
  edges = 0 ∷ 1 ∷ 0 ∷ 2 ∷ 0 ∷ 4 ∷ 1 ∷ 2 ∷ 1 ∷ 4 ∷ 2 ∷ 4 ∷ [];
  counts = 0 ∷ 0 ∷ 0 ∷ 0 ∷ 0 ∷ 0 ∷ [];
  nodes = ns;
  fractions = [];
  room = 0;
  answer = a;
  written = [];
}

-- an edge list that row 2 refuses
abbrev unpaired : Example
unpaired = record {
  cells = 0 ∷ 1 ∷ 2 ∷ 3 ∷ [];
  edges = 0 ∷ 1 ∷ 2 ∷ [];
  counts = 1 ∷ [];
  nodes = [];
  fractions = [];
  room = 0;
  answer = refusal 2 0;
  written = [];
}

unfoldable pub examples : List Example
examples =
    -- one triangle: three points. u × (1 − s) + s × v differs in each of the nine numbers, and u − v for v − u too
    cell (1 ∷ 1 ∷ 1 ∷ 0 ∷ 0 ∷ 0 ∷ []) some_nodes (twentieths 15 ∷ twentieths 16 ∷ twentieths 6 ∷ []) 11 (result_of (3 ∷ [])) corner
    -- four points and normal: no middle
    ∷ cell (0 ∷ 1 ∷ 1 ∷ 1 ∷ 1 ∷ 0 ∷ []) some_nodes (twentieths 15 ∷ twentieths 16 ∷ twentieths 6 ∷ twentieths 7 ∷ []) 12 (result_of (4 ∷ [])) quad
    -- four points, not normal: a fan with its middle
    ∷ cell (2 ∷ 2 ∷ 0 ∷ 0 ∷ 0 ∷ 0 ∷ []) some_nodes (twentieths 5 ∷ twentieths 15 ∷ twentieths 6 ∷ twentieths 16 ∷ []) 15 (result_of (5 ∷ [])) folded_quad
    -- eight points: the middle's three numbers differ where the points are added from the last down, or by crossing number
    ∷ cell (2 ∷ 1 ∷ 1 ∷ 1 ∷ 1 ∷ 2 ∷ []) other_nodes (twentieths 8 ∷ twentieths 17 ∷ twentieths 16 ∷ twentieths 9 ∷ twentieths 16 ∷ twentieths 17 ∷ twentieths 12 ∷ twentieths 17 ∷ []) 30 (result_of (9 ∷ [])) eight
    -- five points: the middle's three numbers differ too where the sum is multiplied by a fifth
    ∷ cell (0 ∷ 0 ∷ 1 ∷ 2 ∷ 1 ∷ 1 ∷ []) some_nodes (twentieths 1 ∷ twentieths 1 ∷ twentieths 11 ∷ twentieths 6 ∷ twentieths 1 ∷ []) 18 (result_of (6 ∷ [])) five
    -- two loops of length 8 one inside the other: each has a middle of its own, the first with i = 1, the second with i = 0. All six numbers differ where
    -- i is counted from the upper node, where E and its opposite change places, with m below or without the 1 above, and from the means
    ∷ cell (4 ∷ 2 ∷ 2 ∷ 2 ∷ 2 ∷ 4 ∷ []) some_nodes
    (twentieths 3 ∷ twentieths 8 ∷ twentieths 12 ∷ twentieths 17 ∷ twentieths 5 ∷ twentieths 15 ∷ twentieths 6 ∷ twentieths 16 ∷ twentieths 4 ∷ twentieths 14
    ∷ twentieths 2 ∷ twentieths 11 ∷ twentieths 1 ∷ twentieths 7 ∷ twentieths 10 ∷ twentieths 19 ∷ [])
    55 (result_of (18 ∷ [])) nested
    -- a crossing more on 01, and with it faces of odd sums: the same two loops, with the means of their points
    ∷ cell (5 ∷ 2 ∷ 2 ∷ 2 ∷ 2 ∷ 4 ∷ []) some_nodes
    (twentieths 3 ∷ twentieths 8 ∷ twentieths 12 ∷ twentieths 14 ∷ twentieths 17 ∷ twentieths 5 ∷ twentieths 15 ∷ twentieths 6 ∷ twentieths 16 ∷ twentieths 4
    ∷ twentieths 14 ∷ twentieths 2 ∷ twentieths 11 ∷ twentieths 1 ∷ twentieths 7 ∷ twentieths 10 ∷ twentieths 19 ∷ [])
    57 (result_of (19 ∷ [])) odd_face
    -- an open curve: one point, no middle
    ∷ on_two 1 0 (half ∷ []) (result_of (1 ∷ [])) (replicate 3 (float_of 0))
    -- middles by cell, not by crossing number
    ∷ two_cells
    -- whole numbers, the farthest among them, and 512, 1 and 1,023 parts of 1,024
    ∷ cell (1 ∷ 1 ∷ 1 ∷ 0 ∷ 0 ∷ 0 ∷ [])
    (float_of 0 ∷ float_of 0 ∷ float_of 0 ∷ float_of 1000000 ∷ neg (float_of 1000000) ∷ float_of 7 ∷ neg (float_of 3) ∷ float_of 5 ∷ float_of 1
    ∷ float_of 2 ∷ float_of 2 ∷ float_of 2 ∷ [])
    (half ∷ ratio 1 1024 ∷ ratio 1023 1024 ∷ []) 9 (result_of (3 ∷ [])) whole
    -- between −0 and −0: −0 + s × (−0 − −0) is +0
    ∷ cell (1 ∷ 0 ∷ 0 ∷ 0 ∷ 0 ∷ 0 ∷ []) (replicate 12 (neg (float_of 0))) (half ∷ []) 3 (result_of (1 ∷ [])) (replicate 3 (float_of 0))
    -- 15: node places, fractions or area short, or a fraction too many; a longer list of node places is allowed
    ∷ cell (1 ∷ 0 ∷ 0 ∷ 0 ∷ 0 ∷ 0 ∷ []) (replicate 11 (float_of 0)) (half ∷ []) 3 (refusal 15 0) []
    ∷ cell (1 ∷ 0 ∷ 0 ∷ 0 ∷ 0 ∷ 0 ∷ []) (replicate 12 (float_of 0)) [] 3 (refusal 15 0) []
    ∷ cell (1 ∷ 0 ∷ 0 ∷ 0 ∷ 0 ∷ 0 ∷ []) (replicate 12 (float_of 0)) (half ∷ half ∷ []) 3 (refusal 15 0) []
    ∷ cell (1 ∷ 0 ∷ 0 ∷ 0 ∷ 0 ∷ 0 ∷ []) (replicate 12 (float_of 0)) (half ∷ []) 2 (refusal 15 0) []
    ∷ empty (replicate 12 (float_of 0) ++ (nan ∷ inf true ∷ [])) (result_of (0 ∷ []))
    -- 16: the ends are within and what lies beyond is not, to either side; −0 is within
    ∷ empty (but 3 million) (result_of (0 ∷ [])) ∷ empty (but 11 (neg million)) (result_of (0 ∷ [])) ∷ empty (but 5 inside) (result_of (0 ∷ []))
    ∷ empty (but 4 beyond) (refusal 16 4) ∷ empty (but 11 (neg beyond)) (refusal 16 11) ∷ empty (but 0 (neg (float_of 0))) (result_of (0 ∷ []))
    ∷ empty (but 7 nan) (refusal 16 7) ∷ empty (but 0 (inf false)) (refusal 16 0) ∷ empty (but 10 (inf true)) (refusal 16 10)
    ∷ empty (nan ∷ replicate 11 beyond) (refusal 16 0)
    -- a node of no cell may have any place, and is counted in the length
    ∷ gap (replicate 9 (float_of 0) ++ (nan ∷ inf true ∷ beyond ∷ replicate 3 million)) (result_of (0 ∷ []))
    ∷ gap (replicate 9 (float_of 0) ++ (nan ∷ nan ∷ nan ∷ float_of 0 ∷ beyond ∷ nan ∷ [])) (refusal 16 13)
    ∷ gap (replicate 14 (float_of 0)) (refusal 15 0)
    -- 17: neither end, nothing outside, no NaN; the least float above 0 and the greatest below 1 are fractions
    ∷ on_two 1 0 (float_of 0 ∷ []) (refusal 17 0) [] ∷ on_two 1 0 (neg (float_of 0) ∷ []) (refusal 17 0) [] ∷ on_two 1 0 (float_of 1 ∷ []) (refusal 17 0) []
    ∷ on_two 1 0 (neg half ∷ []) (refusal 17 0) [] ∷ on_two 1 0 (nan ∷ []) (refusal 17 0) [] ∷ on_two 1 0 (inf false ∷ []) (refusal 17 0) []
    ∷ on_two 1 1 (bits 1 ∷ bits 0x3fefffffffffffff ∷ []) (result_of (2 ∷ [])) (replicate 6 (float_of 0))
    -- above the one before on its edge; the first of the next edge need not be
    ∷ on_two 2 0 (half ∷ half ∷ []) (refusal 17 1) [] ∷ on_two 2 0 (half ∷ ratio 1 4 ∷ []) (refusal 17 1) [] ∷ on_two 3 0 (ratio 1 4 ∷ half ∷ half ∷ []) (refusal 17 2) []
    ∷ on_two 1 1 (half ∷ half ∷ []) (result_of (2 ∷ [])) (replicate 6 (float_of 0)) ∷ on_two 1 1 (half ∷ ratio 1 4 ∷ []) (result_of (2 ∷ [])) (replicate 6 (float_of 0))
    -- rows in order: 2 before 15, 15 before 16, 16 before 17
    ∷ unpaired
    ∷ cell (1 ∷ 0 ∷ 0 ∷ 0 ∷ 0 ∷ 0 ∷ []) (but 0 nan) (nan ∷ []) 2 (refusal 15 0) []
    ∷ cell (1 ∷ 0 ∷ 0 ∷ 0 ∷ 0 ∷ 0 ∷ []) (but 6 nan) (nan ∷ []) 3 (refusal 16 6) []
    ∷ []

-- the area before: sevens
abbrev lent : ℕ → List Float
lent room = replicate room (float_of 7)

-- what the call answers and leaves, and what is listed: the written numbers, and sevens after them
pub record Outcome : Type 0 where
  pub answer : List ℕ
  pub area : List Float

abbrev pub outcome : Example → Outcome
outcome x = record {
  answer = places_answer (built x.cells x.edges x.counts) x.nodes x.fractions (length (lent x.room));
  area = places_area (built x.cells x.edges x.counts) x.nodes x.fractions (lent x.room);
}

abbrev pub listed : Example → Outcome
listed x = record { answer = x.answer; area = x.written ++ lent (x.room - length x.written) }

abbrev pub ExamplesHold : Type 0
ExamplesHold = map outcome examples ≡ map listed examples
