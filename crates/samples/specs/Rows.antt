-- The samples, as the reference prints them.
use Rattle.std.specs.Prelude.{List, [], ◌∷◌, Some, None}
use Rattle.samples.specs.Samples.{LayoutSample, IndexSample, CosetSample, LookupSample}
use Rattle.samples.specs.Samples.{JudgedSample, ProvedSample}

abbrev pub layouts : List LayoutSample
layouts =
    record {
      k = 2;
      rate = 1;
      step = 1;
      rounds = 1;
      last_count = 1;
      store_length = 0;
      dimensions = 2 ∷ 1 ∷ [];
      starts = [];
    } ∷
    record {
      k = 3;
      rate = 1;
      step = 1;
      rounds = 2;
      last_count = 1;
      store_length = 4;
      dimensions = 3 ∷ 2 ∷ 1 ∷ [];
      starts = 0 ∷ [];
    } ∷
    record {
      k = 3;
      rate = 1;
      step = 2;
      rounds = 1;
      last_count = 1;
      store_length = 0;
      dimensions = 3 ∷ 1 ∷ [];
      starts = [];
    } ∷
    record {
      k = 3;
      rate = 2;
      step = 1;
      rounds = 1;
      last_count = 1;
      store_length = 0;
      dimensions = 3 ∷ 2 ∷ [];
      starts = [];
    } ∷
    record {
      k = 4;
      rate = 1;
      step = 1;
      rounds = 3;
      last_count = 1;
      store_length = 12;
      dimensions = 4 ∷ 3 ∷ 2 ∷ 1 ∷ [];
      starts = 0 ∷ 8 ∷ [];
    } ∷
    record {
      k = 4;
      rate = 1;
      step = 2;
      rounds = 1;
      last_count = 2;
      store_length = 0;
      dimensions = 4 ∷ 2 ∷ [];
      starts = [];
    } ∷
    record {
      k = 4;
      rate = 1;
      step = 3;
      rounds = 1;
      last_count = 1;
      store_length = 0;
      dimensions = 4 ∷ 1 ∷ [];
      starts = [];
    } ∷
    record {
      k = 4;
      rate = 2;
      step = 1;
      rounds = 2;
      last_count = 1;
      store_length = 8;
      dimensions = 4 ∷ 3 ∷ 2 ∷ [];
      starts = 0 ∷ [];
    } ∷
    record {
      k = 4;
      rate = 2;
      step = 2;
      rounds = 1;
      last_count = 1;
      store_length = 0;
      dimensions = 4 ∷ 2 ∷ [];
      starts = [];
    } ∷
    record {
      k = 4;
      rate = 3;
      step = 1;
      rounds = 1;
      last_count = 1;
      store_length = 0;
      dimensions = 4 ∷ 3 ∷ [];
      starts = [];
    } ∷
    record {
      k = 5;
      rate = 1;
      step = 1;
      rounds = 4;
      last_count = 1;
      store_length = 28;
      dimensions = 5 ∷ 4 ∷ 3 ∷ 2 ∷ 1 ∷ [];
      starts = 0 ∷ 16 ∷ 24 ∷ [];
    } ∷
    record {
      k = 5;
      rate = 1;
      step = 2;
      rounds = 2;
      last_count = 1;
      store_length = 8;
      dimensions = 5 ∷ 3 ∷ 1 ∷ [];
      starts = 0 ∷ [];
    } ∷
    record {
      k = 5;
      rate = 1;
      step = 3;
      rounds = 1;
      last_count = 2;
      store_length = 0;
      dimensions = 5 ∷ 2 ∷ [];
      starts = [];
    } ∷
    record {
      k = 5;
      rate = 2;
      step = 1;
      rounds = 3;
      last_count = 1;
      store_length = 24;
      dimensions = 5 ∷ 4 ∷ 3 ∷ 2 ∷ [];
      starts = 0 ∷ 16 ∷ [];
    } ∷
    record {
      k = 5;
      rate = 2;
      step = 2;
      rounds = 1;
      last_count = 2;
      store_length = 0;
      dimensions = 5 ∷ 3 ∷ [];
      starts = [];
    } ∷
    record {
      k = 5;
      rate = 2;
      step = 3;
      rounds = 1;
      last_count = 1;
      store_length = 0;
      dimensions = 5 ∷ 2 ∷ [];
      starts = [];
    } ∷
    record {
      k = 5;
      rate = 3;
      step = 1;
      rounds = 2;
      last_count = 1;
      store_length = 16;
      dimensions = 5 ∷ 4 ∷ 3 ∷ [];
      starts = 0 ∷ [];
    } ∷
    record {
      k = 5;
      rate = 3;
      step = 2;
      rounds = 1;
      last_count = 1;
      store_length = 0;
      dimensions = 5 ∷ 3 ∷ [];
      starts = [];
    } ∷
    record {
      k = 5;
      rate = 4;
      step = 1;
      rounds = 1;
      last_count = 1;
      store_length = 0;
      dimensions = 5 ∷ 4 ∷ [];
      starts = [];
    } ∷
    record {
      k = 6;
      rate = 1;
      step = 1;
      rounds = 5;
      last_count = 1;
      store_length = 60;
      dimensions = 6 ∷ 5 ∷ 4 ∷ 3 ∷ 2 ∷ 1 ∷ [];
      starts = 0 ∷ 32 ∷ 48 ∷ 56 ∷ [];
    } ∷
    record {
      k = 6;
      rate = 1;
      step = 2;
      rounds = 2;
      last_count = 2;
      store_length = 16;
      dimensions = 6 ∷ 4 ∷ 2 ∷ [];
      starts = 0 ∷ [];
    } ∷
    record {
      k = 6;
      rate = 1;
      step = 3;
      rounds = 1;
      last_count = 4;
      store_length = 0;
      dimensions = 6 ∷ 3 ∷ [];
      starts = [];
    } ∷
    record {
      k = 6;
      rate = 2;
      step = 1;
      rounds = 4;
      last_count = 1;
      store_length = 56;
      dimensions = 6 ∷ 5 ∷ 4 ∷ 3 ∷ 2 ∷ [];
      starts = 0 ∷ 32 ∷ 48 ∷ [];
    } ∷
    record {
      k = 6;
      rate = 2;
      step = 2;
      rounds = 2;
      last_count = 1;
      store_length = 16;
      dimensions = 6 ∷ 4 ∷ 2 ∷ [];
      starts = 0 ∷ [];
    } ∷
    record {
      k = 6;
      rate = 2;
      step = 3;
      rounds = 1;
      last_count = 2;
      store_length = 0;
      dimensions = 6 ∷ 3 ∷ [];
      starts = [];
    } ∷
    record {
      k = 6;
      rate = 3;
      step = 1;
      rounds = 3;
      last_count = 1;
      store_length = 48;
      dimensions = 6 ∷ 5 ∷ 4 ∷ 3 ∷ [];
      starts = 0 ∷ 32 ∷ [];
    } ∷
    record {
      k = 6;
      rate = 3;
      step = 2;
      rounds = 1;
      last_count = 2;
      store_length = 0;
      dimensions = 6 ∷ 4 ∷ [];
      starts = [];
    } ∷
    record {
      k = 6;
      rate = 3;
      step = 3;
      rounds = 1;
      last_count = 1;
      store_length = 0;
      dimensions = 6 ∷ 3 ∷ [];
      starts = [];
    } ∷
    record {
      k = 6;
      rate = 4;
      step = 1;
      rounds = 2;
      last_count = 1;
      store_length = 32;
      dimensions = 6 ∷ 5 ∷ 4 ∷ [];
      starts = 0 ∷ [];
    } ∷
    record {
      k = 6;
      rate = 4;
      step = 2;
      rounds = 1;
      last_count = 1;
      store_length = 0;
      dimensions = 6 ∷ 4 ∷ [];
      starts = [];
    } ∷
    record {
      k = 6;
      rate = 5;
      step = 1;
      rounds = 1;
      last_count = 1;
      store_length = 0;
      dimensions = 6 ∷ 5 ∷ [];
      starts = [];
    } ∷
    []

abbrev pub indices : List IndexSample
indices =
    record { k = 2; rate = 1; step = 1; query = 2; indices = 2 ∷ 1 ∷ [] } ∷
    record { k = 2; rate = 1; step = 1; query = 3; indices = 3 ∷ 1 ∷ [] } ∷
    record { k = 3; rate = 1; step = 1; query = 6; indices = 6 ∷ 3 ∷ 1 ∷ [] } ∷
    record { k = 3; rate = 1; step = 1; query = 7; indices = 7 ∷ 3 ∷ 1 ∷ [] } ∷
    record { k = 3; rate = 1; step = 2; query = 1; indices = 1 ∷ 0 ∷ [] } ∷
    record { k = 3; rate = 1; step = 2; query = 7; indices = 7 ∷ 1 ∷ [] } ∷
    record { k = 3; rate = 2; step = 1; query = 6; indices = 6 ∷ 3 ∷ [] } ∷
    record { k = 3; rate = 2; step = 1; query = 7; indices = 7 ∷ 3 ∷ [] } ∷
    record { k = 4; rate = 1; step = 1; query = 1; indices = 1 ∷ 0 ∷ 0 ∷ 0 ∷ [] } ∷
    record { k = 4; rate = 1; step = 1; query = 15; indices = 15 ∷ 7 ∷ 3 ∷ 1 ∷ [] } ∷
    record { k = 4; rate = 1; step = 2; query = 7; indices = 7 ∷ 1 ∷ [] } ∷
    record { k = 4; rate = 1; step = 2; query = 15; indices = 15 ∷ 3 ∷ [] } ∷
    record { k = 4; rate = 1; step = 3; query = 13; indices = 13 ∷ 1 ∷ [] } ∷
    record { k = 4; rate = 1; step = 3; query = 15; indices = 15 ∷ 1 ∷ [] } ∷
    record { k = 4; rate = 2; step = 1; query = 10; indices = 10 ∷ 5 ∷ 2 ∷ [] } ∷
    record { k = 4; rate = 2; step = 1; query = 15; indices = 15 ∷ 7 ∷ 3 ∷ [] } ∷
    record { k = 4; rate = 2; step = 2; query = 10; indices = 10 ∷ 2 ∷ [] } ∷
    record { k = 4; rate = 2; step = 2; query = 15; indices = 15 ∷ 3 ∷ [] } ∷
    record { k = 4; rate = 3; step = 1; query = 11; indices = 11 ∷ 5 ∷ [] } ∷
    record { k = 4; rate = 3; step = 1; query = 15; indices = 15 ∷ 7 ∷ [] } ∷
    record { k = 5; rate = 1; step = 1; query = 8; indices = 8 ∷ 4 ∷ 2 ∷ 1 ∷ 0 ∷ [] } ∷
    record { k = 5; rate = 1; step = 1; query = 31; indices = 31 ∷ 15 ∷ 7 ∷ 3 ∷ 1 ∷ [] } ∷
    record { k = 5; rate = 1; step = 2; query = 6; indices = 6 ∷ 1 ∷ 0 ∷ [] } ∷
    record { k = 5; rate = 1; step = 2; query = 31; indices = 31 ∷ 7 ∷ 1 ∷ [] } ∷
    record { k = 5; rate = 1; step = 3; query = 1; indices = 1 ∷ 0 ∷ [] } ∷
    record { k = 5; rate = 1; step = 3; query = 31; indices = 31 ∷ 3 ∷ [] } ∷
    record { k = 5; rate = 2; step = 1; query = 17; indices = 17 ∷ 8 ∷ 4 ∷ 2 ∷ [] } ∷
    record { k = 5; rate = 2; step = 1; query = 31; indices = 31 ∷ 15 ∷ 7 ∷ 3 ∷ [] } ∷
    record { k = 5; rate = 2; step = 2; query = 8; indices = 8 ∷ 2 ∷ [] } ∷
    record { k = 5; rate = 2; step = 2; query = 31; indices = 31 ∷ 7 ∷ [] } ∷
    record { k = 5; rate = 2; step = 3; query = 19; indices = 19 ∷ 2 ∷ [] } ∷
    record { k = 5; rate = 2; step = 3; query = 31; indices = 31 ∷ 3 ∷ [] } ∷
    record { k = 5; rate = 3; step = 1; query = 25; indices = 25 ∷ 12 ∷ 6 ∷ [] } ∷
    record { k = 5; rate = 3; step = 1; query = 31; indices = 31 ∷ 15 ∷ 7 ∷ [] } ∷
    record { k = 5; rate = 3; step = 2; query = 28; indices = 28 ∷ 7 ∷ [] } ∷
    record { k = 5; rate = 3; step = 2; query = 31; indices = 31 ∷ 7 ∷ [] } ∷
    record { k = 5; rate = 4; step = 1; query = 14; indices = 14 ∷ 7 ∷ [] } ∷
    record { k = 5; rate = 4; step = 1; query = 31; indices = 31 ∷ 15 ∷ [] } ∷
    record { k = 6; rate = 1; step = 1; query = 49; indices = 49 ∷ 24 ∷ 12 ∷ 6 ∷ 3 ∷ 1 ∷ [] } ∷
    record { k = 6; rate = 1; step = 1; query = 63; indices = 63 ∷ 31 ∷ 15 ∷ 7 ∷ 3 ∷ 1 ∷ [] } ∷
    record { k = 6; rate = 1; step = 2; query = 8; indices = 8 ∷ 2 ∷ 0 ∷ [] } ∷
    record { k = 6; rate = 1; step = 2; query = 63; indices = 63 ∷ 15 ∷ 3 ∷ [] } ∷
    record { k = 6; rate = 1; step = 3; query = 46; indices = 46 ∷ 5 ∷ [] } ∷
    record { k = 6; rate = 1; step = 3; query = 63; indices = 63 ∷ 7 ∷ [] } ∷
    record { k = 6; rate = 2; step = 1; query = 6; indices = 6 ∷ 3 ∷ 1 ∷ 0 ∷ 0 ∷ [] } ∷
    record { k = 6; rate = 2; step = 1; query = 63; indices = 63 ∷ 31 ∷ 15 ∷ 7 ∷ 3 ∷ [] } ∷
    record { k = 6; rate = 2; step = 2; query = 50; indices = 50 ∷ 12 ∷ 3 ∷ [] } ∷
    record { k = 6; rate = 2; step = 2; query = 63; indices = 63 ∷ 15 ∷ 3 ∷ [] } ∷
    record { k = 6; rate = 2; step = 3; query = 3; indices = 3 ∷ 0 ∷ [] } ∷
    record { k = 6; rate = 2; step = 3; query = 63; indices = 63 ∷ 7 ∷ [] } ∷
    record { k = 6; rate = 3; step = 1; query = 37; indices = 37 ∷ 18 ∷ 9 ∷ 4 ∷ [] } ∷
    record { k = 6; rate = 3; step = 1; query = 63; indices = 63 ∷ 31 ∷ 15 ∷ 7 ∷ [] } ∷
    record { k = 6; rate = 3; step = 2; query = 48; indices = 48 ∷ 12 ∷ [] } ∷
    record { k = 6; rate = 3; step = 2; query = 63; indices = 63 ∷ 15 ∷ [] } ∷
    record { k = 6; rate = 3; step = 3; query = 9; indices = 9 ∷ 1 ∷ [] } ∷
    record { k = 6; rate = 3; step = 3; query = 63; indices = 63 ∷ 7 ∷ [] } ∷
    record { k = 6; rate = 4; step = 1; query = 50; indices = 50 ∷ 25 ∷ 12 ∷ [] } ∷
    record { k = 6; rate = 4; step = 1; query = 63; indices = 63 ∷ 31 ∷ 15 ∷ [] } ∷
    record { k = 6; rate = 4; step = 2; query = 2; indices = 2 ∷ 0 ∷ [] } ∷
    record { k = 6; rate = 4; step = 2; query = 63; indices = 63 ∷ 15 ∷ [] } ∷
    record { k = 6; rate = 5; step = 1; query = 53; indices = 53 ∷ 26 ∷ [] } ∷
    record { k = 6; rate = 5; step = 1; query = 63; indices = 63 ∷ 31 ∷ [] } ∷
    []

abbrev pub cosets : List CosetSample
cosets =
    record {
      k = 3;
      rate = 1;
      step = 1;
      offset = 611605116459699413;
      basis = 3410857715756635602 ∷ 306070658226402631 ∷ 8231388949437901407 ∷ [];
      offsets = 611605116459699413 ∷ 13151079648654125282 ∷ 13399026422291395053 ∷ [];
      bases =
          (3410857715756635602 ∷ 306070658226402631 ∷ 8231388949437901407 ∷ [])
          ∷ (246056456438505676 ∷ 16134801571029572616 ∷ []) ∷ (15985652239552751811 ∷ []) ∷ [];
    } ∷
    record {
      k = 4;
      rate = 1;
      step = 1;
      offset = 8539339419458300430;
      basis = 1 ∷ 2 ∷ 4 ∷ 8 ∷ [];
      offsets = 8539339419458300430 ∷ 11824767860800580842 ∷ 8428488340637388687 ∷ 3204032589401056433 ∷ [];
      bases = (1 ∷ 2 ∷ 4 ∷ 8 ∷ []) ∷ (6 ∷ 20 ∷ 72 ∷ []) ∷ (360 ∷ 4592 ∷ []) ∷ (18245760 ∷ []) ∷ [];
    } ∷
    record {
      k = 5;
      rate = 1;
      step = 2;
      offset = 0;
      basis = 1 ∷ 2 ∷ 4 ∷ 8 ∷ 16 ∷ [];
      offsets = 0 ∷ 0 ∷ 0 ∷ [];
      bases = (1 ∷ 2 ∷ 4 ∷ 8 ∷ 16 ∷ []) ∷ (360 ∷ 4592 ∷ 67424 ∷ []) ∷ (78274681211224091 ∷ []) ∷ [];
    } ∷
    record {
      k = 4;
      rate = 1;
      step = 3;
      offset = 12701153734158973458;
      basis = 1 ∷ 2 ∷ 4 ∷ 8 ∷ [];
      offsets = 12701153734158973458 ∷ 16964067669784207619 ∷ [];
      bases = (1 ∷ 2 ∷ 4 ∷ 8 ∷ []) ∷ (18245760 ∷ []) ∷ [];
    } ∷
    []

abbrev pub lookups : List LookupSample
lookups =
    record { k = 3; rate = 1; step = 1; store = 11 ∷ 12 ∷ 13 ∷ 14 ∷ []; layer = 1; part = 11 ∷ 12 ∷ 13 ∷ 14 ∷ [] } ∷
    record {
      k = 4;
      rate = 2;
      step = 1;
      store = 11 ∷ 12 ∷ 13 ∷ 14 ∷ 15 ∷ 16 ∷ 17 ∷ 18 ∷ [];
      layer = 1;
      part = 11 ∷ 12 ∷ 13 ∷ 14 ∷ 15 ∷ 16 ∷ 17 ∷ 18 ∷ [];
    } ∷
    record {
      k = 5;
      rate = 1;
      step = 2;
      store = 11 ∷ 12 ∷ 13 ∷ 14 ∷ 15 ∷ 16 ∷ 17 ∷ 18 ∷ [];
      layer = 1;
      part = 11 ∷ 12 ∷ 13 ∷ 14 ∷ 15 ∷ 16 ∷ 17 ∷ 18 ∷ [];
    } ∷
    record {
      k = 4;
      rate = 1;
      step = 1;
      store = 11 ∷ 12 ∷ 13 ∷ 14 ∷ 15 ∷ 16 ∷ 17 ∷ 18 ∷ 19 ∷ 20 ∷ 21 ∷ 22 ∷ [];
      layer = 1;
      part = 11 ∷ 12 ∷ 13 ∷ 14 ∷ 15 ∷ 16 ∷ 17 ∷ 18 ∷ [];
    } ∷
    record {
      k = 4;
      rate = 1;
      step = 1;
      store = 11 ∷ 12 ∷ 13 ∷ 14 ∷ 15 ∷ 16 ∷ 17 ∷ 18 ∷ 19 ∷ 20 ∷ 21 ∷ 22 ∷ [];
      layer = 2;
      part = 19 ∷ 20 ∷ 21 ∷ 22 ∷ [];
    } ∷
    record {
      k = 5;
      rate = 2;
      step = 1;
      store =
          11 ∷ 12 ∷ 13 ∷ 14 ∷ 15 ∷ 16 ∷ 17 ∷ 18 ∷ 19 ∷ 20 ∷ 21 ∷ 22 ∷ 23 ∷ 24 ∷ 25 ∷ 26 ∷ 27 ∷ 28 ∷ 29 ∷ 30 ∷ 31 ∷ 32
          ∷ 33 ∷ 34 ∷ [];
      layer = 1;
      part = 11 ∷ 12 ∷ 13 ∷ 14 ∷ 15 ∷ 16 ∷ 17 ∷ 18 ∷ 19 ∷ 20 ∷ 21 ∷ 22 ∷ 23 ∷ 24 ∷ 25 ∷ 26 ∷ [];
    } ∷
    record {
      k = 5;
      rate = 2;
      step = 1;
      store =
          11 ∷ 12 ∷ 13 ∷ 14 ∷ 15 ∷ 16 ∷ 17 ∷ 18 ∷ 19 ∷ 20 ∷ 21 ∷ 22 ∷ 23 ∷ 24 ∷ 25 ∷ 26 ∷ 27 ∷ 28 ∷ 29 ∷ 30 ∷ 31 ∷ 32
          ∷ 33 ∷ 34 ∷ [];
      layer = 2;
      part = 27 ∷ 28 ∷ 29 ∷ 30 ∷ 31 ∷ 32 ∷ 33 ∷ 34 ∷ [];
    } ∷
    record {
      k = 5;
      rate = 1;
      step = 1;
      store =
          11 ∷ 12 ∷ 13 ∷ 14 ∷ 15 ∷ 16 ∷ 17 ∷ 18 ∷ 19 ∷ 20 ∷ 21 ∷ 22 ∷ 23 ∷ 24 ∷ 25 ∷ 26 ∷ 27 ∷ 28 ∷ 29 ∷ 30 ∷ 31 ∷ 32
          ∷ 33 ∷ 34 ∷ 35 ∷ 36 ∷ 37 ∷ 38 ∷ [];
      layer = 1;
      part = 11 ∷ 12 ∷ 13 ∷ 14 ∷ 15 ∷ 16 ∷ 17 ∷ 18 ∷ 19 ∷ 20 ∷ 21 ∷ 22 ∷ 23 ∷ 24 ∷ 25 ∷ 26 ∷ [];
    } ∷
    record {
      k = 5;
      rate = 1;
      step = 1;
      store =
          11 ∷ 12 ∷ 13 ∷ 14 ∷ 15 ∷ 16 ∷ 17 ∷ 18 ∷ 19 ∷ 20 ∷ 21 ∷ 22 ∷ 23 ∷ 24 ∷ 25 ∷ 26 ∷ 27 ∷ 28 ∷ 29 ∷ 30 ∷ 31 ∷ 32
          ∷ 33 ∷ 34 ∷ 35 ∷ 36 ∷ 37 ∷ 38 ∷ [];
      layer = 2;
      part = 27 ∷ 28 ∷ 29 ∷ 30 ∷ 31 ∷ 32 ∷ 33 ∷ 34 ∷ [];
    } ∷
    record {
      k = 5;
      rate = 1;
      step = 1;
      store =
          11 ∷ 12 ∷ 13 ∷ 14 ∷ 15 ∷ 16 ∷ 17 ∷ 18 ∷ 19 ∷ 20 ∷ 21 ∷ 22 ∷ 23 ∷ 24 ∷ 25 ∷ 26 ∷ 27 ∷ 28 ∷ 29 ∷ 30 ∷ 31 ∷ 32
          ∷ 33 ∷ 34 ∷ 35 ∷ 36 ∷ 37 ∷ 38 ∷ [];
      layer = 3;
      part = 35 ∷ 36 ∷ 37 ∷ 38 ∷ [];
    } ∷
    record {
      k = 4;
      rate = 1;
      step = 1;
      store = 11 ∷ 12 ∷ 13 ∷ 14 ∷ 15 ∷ 16 ∷ 17 ∷ 18 ∷ 19 ∷ 20 ∷ 21 ∷ 22 ∷ [];
      layer = 0;
      part = [];
    } ∷
    record {
      k = 4;
      rate = 1;
      step = 1;
      store = 11 ∷ 12 ∷ 13 ∷ 14 ∷ 15 ∷ 16 ∷ 17 ∷ 18 ∷ 19 ∷ 20 ∷ 21 ∷ 22 ∷ [];
      layer = 3;
      part = [];
    } ∷
    record {
      k = 4;
      rate = 1;
      step = 1;
      store = 11 ∷ 12 ∷ 13 ∷ 14 ∷ 15 ∷ 16 ∷ 17 ∷ 18 ∷ 19 ∷ 20 ∷ 21 ∷ 22 ∷ [];
      layer = 4;
      part = [];
    } ∷
    record {
      k = 4;
      rate = 1;
      step = 1;
      store = 11 ∷ 12 ∷ 13 ∷ 14 ∷ 15 ∷ 16 ∷ 17 ∷ 18 ∷ 19 ∷ 20 ∷ 21 ∷ [];
      layer = 1;
      part = [];
    } ∷
    record {
      k = 4;
      rate = 1;
      step = 1;
      store = 11 ∷ 12 ∷ 13 ∷ 14 ∷ 15 ∷ 16 ∷ 17 ∷ 18 ∷ 19 ∷ 20 ∷ 21 ∷ 22 ∷ 23 ∷ [];
      layer = 2;
      part = [];
    } ∷
    record { k = 4; rate = 1; step = 1; store = []; layer = 1; part = [] } ∷
    record { k = 1; rate = 1; step = 1; store = 11 ∷ 12 ∷ 13 ∷ 14 ∷ []; layer = 1; part = [] } ∷
    record { k = 21; rate = 6; step = 3; store = 11 ∷ 12 ∷ 13 ∷ 14 ∷ []; layer = 1; part = [] } ∷
    record { k = 3; rate = 0; step = 1; store = 11 ∷ 12 ∷ 13 ∷ 14 ∷ 15 ∷ 16 ∷ []; layer = 1; part = [] } ∷
    record {
      k = 9;
      rate = 7;
      step = 1;
      store =
          11 ∷ 12 ∷ 13 ∷ 14 ∷ 15 ∷ 16 ∷ 17 ∷ 18 ∷ 19 ∷ 20 ∷ 21 ∷ 22 ∷ 23 ∷ 24 ∷ 25 ∷ 26 ∷ 27 ∷ 28 ∷ 29 ∷ 30 ∷ 31 ∷ 32
          ∷ 33 ∷ 34 ∷ 35 ∷ 36 ∷ 37 ∷ 38 ∷ 39 ∷ 40 ∷ 41 ∷ 42 ∷ 43 ∷ 44 ∷ 45 ∷ 46 ∷ 47 ∷ 48 ∷ 49 ∷ 50 ∷ 51 ∷ 52 ∷ 53
          ∷ 54 ∷ 55 ∷ 56 ∷ 57 ∷ 58 ∷ 59 ∷ 60 ∷ 61 ∷ 62 ∷ 63 ∷ 64 ∷ 65 ∷ 66 ∷ 67 ∷ 68 ∷ 69 ∷ 70 ∷ 71 ∷ 72 ∷ 73 ∷ 74
          ∷ 75 ∷ 76 ∷ 77 ∷ 78 ∷ 79 ∷ 80 ∷ 81 ∷ 82 ∷ 83 ∷ 84 ∷ 85 ∷ 86 ∷ 87 ∷ 88 ∷ 89 ∷ 90 ∷ 91 ∷ 92 ∷ 93 ∷ 94 ∷ 95
          ∷ 96 ∷ 97 ∷ 98 ∷ 99 ∷ 100 ∷ 101 ∷ 102 ∷ 103 ∷ 104 ∷ 105 ∷ 106 ∷ 107 ∷ 108 ∷ 109 ∷ 110 ∷ 111 ∷ 112 ∷ 113
          ∷ 114 ∷ 115 ∷ 116 ∷ 117 ∷ 118 ∷ 119 ∷ 120 ∷ 121 ∷ 122 ∷ 123 ∷ 124 ∷ 125 ∷ 126 ∷ 127 ∷ 128 ∷ 129 ∷ 130 ∷ 131
          ∷ 132 ∷ 133 ∷ 134 ∷ 135 ∷ 136 ∷ 137 ∷ 138 ∷ 139 ∷ 140 ∷ 141 ∷ 142 ∷ 143 ∷ 144 ∷ 145 ∷ 146 ∷ 147 ∷ 148 ∷ 149
          ∷ 150 ∷ 151 ∷ 152 ∷ 153 ∷ 154 ∷ 155 ∷ 156 ∷ 157 ∷ 158 ∷ 159 ∷ 160 ∷ 161 ∷ 162 ∷ 163 ∷ 164 ∷ 165 ∷ 166 ∷ 167
          ∷ 168 ∷ 169 ∷ 170 ∷ 171 ∷ 172 ∷ 173 ∷ 174 ∷ 175 ∷ 176 ∷ 177 ∷ 178 ∷ 179 ∷ 180 ∷ 181 ∷ 182 ∷ 183 ∷ 184 ∷ 185
          ∷ 186 ∷ 187 ∷ 188 ∷ 189 ∷ 190 ∷ 191 ∷ 192 ∷ 193 ∷ 194 ∷ 195 ∷ 196 ∷ 197 ∷ 198 ∷ 199 ∷ 200 ∷ 201 ∷ 202 ∷ 203
          ∷ 204 ∷ 205 ∷ 206 ∷ 207 ∷ 208 ∷ 209 ∷ 210 ∷ 211 ∷ 212 ∷ 213 ∷ 214 ∷ 215 ∷ 216 ∷ 217 ∷ 218 ∷ 219 ∷ 220 ∷ 221
          ∷ 222 ∷ 223 ∷ 224 ∷ 225 ∷ 226 ∷ 227 ∷ 228 ∷ 229 ∷ 230 ∷ 231 ∷ 232 ∷ 233 ∷ 234 ∷ 235 ∷ 236 ∷ 237 ∷ 238 ∷ 239
          ∷ 240 ∷ 241 ∷ 242 ∷ 243 ∷ 244 ∷ 245 ∷ 246 ∷ 247 ∷ 248 ∷ 249 ∷ 250 ∷ 251 ∷ 252 ∷ 253 ∷ 254 ∷ 255 ∷ 256 ∷ 257
          ∷ 258 ∷ 259 ∷ 260 ∷ 261 ∷ 262 ∷ 263 ∷ 264 ∷ 265 ∷ 266 ∷ [];
      layer = 1;
      part = [];
    } ∷
    record { k = 3; rate = 1; step = 0; store = 11 ∷ 12 ∷ 13 ∷ 14 ∷ 15 ∷ 16 ∷ 17 ∷ 18 ∷ []; layer = 1; part = [] } ∷
    record {
      k = 9;
      rate = 1;
      step = 4;
      store =
          11 ∷ 12 ∷ 13 ∷ 14 ∷ 15 ∷ 16 ∷ 17 ∷ 18 ∷ 19 ∷ 20 ∷ 21 ∷ 22 ∷ 23 ∷ 24 ∷ 25 ∷ 26 ∷ 27 ∷ 28 ∷ 29 ∷ 30 ∷ 31 ∷ 32
          ∷ 33 ∷ 34 ∷ 35 ∷ 36 ∷ 37 ∷ 38 ∷ 39 ∷ 40 ∷ 41 ∷ 42 ∷ [];
      layer = 1;
      part = [];
    } ∷
    record { k = 3; rate = 2; step = 2; store = 11 ∷ 12 ∷ []; layer = 1; part = [] } ∷
    record { k = 2; rate = 3; step = 1; store = 11 ∷ 12 ∷ []; layer = 1; part = [] } ∷
    record { k = 2; rate = 1; step = 1; store = []; layer = 1; part = [] } ∷
    record { k = 3; rate = 1; step = 2; store = 11 ∷ 12 ∷ []; layer = 1; part = [] } ∷
    []

abbrev pub judged_of_table_a : List JudgedSample
judged_of_table_a =
    record {
      run = record {
        k = 2;
        rate = 1;
        step = 1;
        offset = 0;
        basis = 1 ∷ 2 ∷ [];
        challenges = 4 ∷ [];
        word = 7 ∷ 4 ∷ 1 ∷ 2 ∷ [];
        store = [];
        last = 11 ∷ [];
      };
      queries = 0 ∷ 3 ∷ [];
      number = 0;
      place = None;
      round = None;
      reads = 4;
    } ∷
    record {
      run = record {
        k = 2;
        rate = 1;
        step = 1;
        offset = 0;
        basis = 1 ∷ 2 ∷ [];
        challenges = 4 ∷ [];
        word = 7 ∷ 4 ∷ 1 ∷ 3 ∷ [];
        store = [];
        last = 11 ∷ [];
      };
      queries = 0 ∷ 3 ∷ [];
      number = 11;
      place = Some 1;
      round = Some 0;
      reads = 4;
    } ∷
    record {
      run = record {
        k = 2;
        rate = 1;
        step = 1;
        offset = 0;
        basis = 1 ∷ 2 ∷ [];
        challenges = 4 ∷ [];
        word = 7 ∷ 4 ∷ 1 ∷ 3 ∷ [];
        store = [];
        last = 11 ∷ [];
      };
      queries = 0 ∷ [];
      number = 0;
      place = None;
      round = None;
      reads = 2;
    } ∷
    record {
      run = record {
        k = 2;
        rate = 1;
        step = 1;
        offset = 0;
        basis = 1 ∷ 2 ∷ [];
        challenges = 2 ∷ [];
        word = 0 ∷ 0 ∷ 0 ∷ 1 ∷ [];
        store = [];
        last = 0 ∷ [];
      };
      queries = 0 ∷ 3 ∷ [];
      number = 0;
      place = None;
      round = None;
      reads = 4;
    } ∷
    []

abbrev pub judged_accepted : List JudgedSample
judged_accepted =
    record {
      run = record {
        k = 3;
        rate = 1;
        step = 1;
        offset = 117;
        basis = 1 ∷ 1858076378458151938 ∷ 2 ∷ [];
        challenges = 188 ∷ 10 ∷ [];
        word =
            61924759 ∷ 62438310 ∷ 9950774006114901225 ∷ 9950774006114353789 ∷ 60875613 ∷ 61390514
            ∷ 4753940040940500910 ∷ 4753940040941038308 ∷ [];
        store = 96657134 ∷ 96638245 ∷ 96691796 ∷ 96677279 ∷ [];
        last = 189612 ∷ [];
      };
      queries = 5 ∷ 2 ∷ [];
      number = 0;
      place = None;
      round = None;
      reads = 8;
    } ∷
    record {
      run = record {
        k = 4;
        rate = 1;
        step = 1;
        offset = 147;
        basis = 1 ∷ 1858076378458151938 ∷ 13279093613986655127 ∷ 2 ∷ [];
        challenges = 220 ∷ 45 ∷ 226 ∷ [];
        word =
            120937963746221032 ∷ 121203769025518498 ∷ 14825982602877065791 ∷ 14826776778467589360
            ∷ 9011390730305443117 ∷ 13968803912608538764 ∷ 7114037116258600197 ∷ 16028291445161154287
            ∷ 120431129035621048 ∷ 119601659904493516 ∷ 4036524396708302881 ∷ 4037389017883852460
            ∷ 13169764564720124473 ∷ 15050119373692795066 ∷ 16545882832971602501 ∷ 9477381237628374001 ∷ [];
        store =
            103923308507515598 ∷ 103917505793372335 ∷ 16805355277259844447 ∷ 16805349474685947051 ∷ 103909783362069692
            ∷ 103913455329082535 ∷ 15483920482452709366 ∷ 15483914817462557304 ∷ 146533025115349 ∷ 146533024577542
            ∷ 146533018044483 ∷ 146533017541776 ∷ [];
        last = 119816821 ∷ [];
      };
      queries = 13 ∷ [];
      number = 0;
      place = None;
      round = None;
      reads = 6;
    } ∷
    []

abbrev pub judged_failing_in_two_rounds : List JudgedSample
judged_failing_in_two_rounds =
    record {
      run = record {
        k = 3;
        rate = 1;
        step = 1;
        offset = 103;
        basis = 1 ∷ 1858076378458151938 ∷ 2 ∷ [];
        challenges = 51 ∷ 98 ∷ [];
        word =
            63819464 ∷ 63405261 ∷ 212428910018026524 ∷ 212428910018653843 ∷ 64490868 ∷ 64142413 ∷ 6156921021780708212
            ∷ 6156921021780032199 ∷ [];
        store = 31500236 ∷ 31506328 ∷ 31520306 ∷ 31518311 ∷ [];
        last = 337564 ∷ [];
      };
      queries = 6 ∷ 3 ∷ [];
      number = 11;
      place = Some 1;
      round = Some 0;
      reads = 8;
    } ∷
    record {
      run = record {
        k = 3;
        rate = 1;
        step = 1;
        offset = 103;
        basis = 1 ∷ 1858076378458151938 ∷ 2 ∷ [];
        challenges = 51 ∷ 98 ∷ [];
        word =
            63819464 ∷ 63405261 ∷ 212428910018026524 ∷ 212428910018653843 ∷ 64490868 ∷ 64142413 ∷ 6156921021780708212
            ∷ 6156921021780032199 ∷ [];
        store = 31500236 ∷ 31506328 ∷ 31520306 ∷ 31518311 ∷ [];
        last = 337564 ∷ [];
      };
      queries = 1 ∷ 3 ∷ [];
      number = 11;
      place = Some 0;
      round = Some 1;
      reads = 4;
    } ∷
    []

abbrev pub judged_failing_in_three_rounds : List JudgedSample
judged_failing_in_three_rounds =
    record {
      run = record {
        k = 4;
        rate = 1;
        step = 1;
        offset = 129;
        basis = 1 ∷ 1858076378458151939 ∷ 13279093613986655127 ∷ 2 ∷ [];
        challenges = 253 ∷ 230 ∷ 133 ∷ [];
        word =
            18445766872285101 ∷ 18310576270012983 ∷ 13180334357018320869 ∷ 13180190362129973933 ∷ 16820218104636565370
            ∷ 16019585772767898960 ∷ 9340306188632649926 ∷ 13160368733662439965 ∷ 18159854134071695
            ∷ 18015817501023749 ∷ 7220132728285529673 ∷ 7220278955470265155 ∷ 372016064628177785 ∷ 9021937900468277199
            ∷ 5029381530216764725 ∷ 4455755217842352930 ∷ [];
        store =
            35472977725974901 ∷ 35474127166146356 ∷ 16251025236460640908 ∷ 16251024447797652339 ∷ 35468475813668739
            ∷ 35469832486325598 ∷ 17604413261569759229 ∷ 17604414182302982814 ∷ 206585876780179 ∷ 206585876359851
            ∷ 206585869732707 ∷ 206585870300507 ∷ [];
        last = 99111499 ∷ [];
      };
      queries = 7 ∷ [];
      number = 11;
      place = Some 0;
      round = Some 0;
      reads = 4;
    } ∷
    record {
      run = record {
        k = 4;
        rate = 1;
        step = 1;
        offset = 129;
        basis = 1 ∷ 1858076378458151939 ∷ 13279093613986655127 ∷ 2 ∷ [];
        challenges = 253 ∷ 230 ∷ 133 ∷ [];
        word =
            18445766872285101 ∷ 18310576270012983 ∷ 13180334357018320869 ∷ 13180190362129973933 ∷ 16820218104636565370
            ∷ 16019585772767898960 ∷ 9340306188632649924 ∷ 13160368733662439965 ∷ 18159854134071695
            ∷ 18015817501023749 ∷ 7220132728285529673 ∷ 7220278955470265155 ∷ 372016064628177785 ∷ 9021937900468277199
            ∷ 5029381530216764725 ∷ 4455755217842352930 ∷ [];
        store =
            35472977725974901 ∷ 35474127166146356 ∷ 16251025236460640908 ∷ 16251024447797652339 ∷ 35468475813668739
            ∷ 35469832486325598 ∷ 17604413261569759229 ∷ 17604414182302982814 ∷ 206585876780179 ∷ 206585876359851
            ∷ 206585869732715 ∷ 206585870300507 ∷ [];
        last = 99111499 ∷ [];
      };
      queries = 12 ∷ [];
      number = 11;
      place = Some 0;
      round = Some 2;
      reads = 6;
    } ∷
    []

abbrev pub judged_at_high_degree : List JudgedSample
judged_at_high_degree =
    record {
      run = record {
        k = 3;
        rate = 1;
        step = 1;
        offset = 194;
        basis = 1 ∷ 1858076378458151939 ∷ 2 ∷ [];
        challenges = 62 ∷ 110 ∷ [];
        word =
            133791181365049769 ∷ 133285485215038871 ∷ 2145154909256368667 ∷ 2145907089452295343 ∷ 134805086093072925
            ∷ 134044328669021935 ∷ 9671883868775162948 ∷ 9672530448905638558 ∷ [];
        store = 31094994130246657 ∷ 31095780763046629 ∷ 31098654738637633 ∷ 31100537159648167 ∷ [];
        last = 498789 ∷ [];
      };
      queries = 7 ∷ [];
      number = 11;
      place = Some 0;
      round = Some 1;
      reads = 4;
    } ∷
    []

abbrev pub judged_refused : List JudgedSample
judged_refused =
    record {
      run = record {
        k = 1;
        rate = 7;
        step = 0;
        offset = 0;
        basis = 1 ∷ 2 ∷ [];
        challenges = 4 ∷ [];
        word = 7 ∷ 4 ∷ 1 ∷ 2 ∷ [];
        store = [];
        last = 11 ∷ [];
      };
      queries = [];
      number = 4;
      place = None;
      round = None;
      reads = 0;
    } ∷
    record {
      run = record {
        k = 21;
        rate = 1;
        step = 1;
        offset = 0;
        basis = 1 ∷ 2 ∷ [];
        challenges = 4 ∷ [];
        word = 7 ∷ 4 ∷ 1 ∷ 2 ∷ [];
        store = [];
        last = 11 ∷ [];
      };
      queries = [];
      number = 4;
      place = None;
      round = None;
      reads = 0;
    } ∷
    record {
      run = record {
        k = 2;
        rate = 0;
        step = 4;
        offset = 0;
        basis = 1 ∷ 2 ∷ [];
        challenges = 4 ∷ [];
        word = 7 ∷ 4 ∷ 1 ∷ 2 ∷ [];
        store = [];
        last = 11 ∷ [];
      };
      queries = [];
      number = 5;
      place = None;
      round = None;
      reads = 0;
    } ∷
    record {
      run = record {
        k = 2;
        rate = 6;
        step = 4;
        offset = 0;
        basis = 1 ∷ 2 ∷ [];
        challenges = 4 ∷ [];
        word = 7 ∷ 4 ∷ 1 ∷ 2 ∷ [];
        store = [];
        last = 11 ∷ [];
      };
      queries = [];
      number = 6;
      place = None;
      round = None;
      reads = 0;
    } ∷
    record {
      run = record {
        k = 4;
        rate = 2;
        step = 3;
        offset = 0;
        basis = 1 ∷ 2 ∷ [];
        challenges = 4 ∷ [];
        word = 7 ∷ 4 ∷ 1 ∷ 2 ∷ [];
        store = [];
        last = 11 ∷ [];
      };
      queries = [];
      number = 7;
      place = None;
      round = None;
      reads = 0;
    } ∷
    record {
      run = record {
        k = 3;
        rate = 1;
        step = 1;
        offset = 211;
        basis = 1 ∷ 1858076378458151939 ∷ 2 ∷ 7 ∷ [];
        challenges = 176 ∷ 75 ∷ [];
        word =
            242196612 ∷ 242975841 ∷ 801140328721500450 ∷ 801140328722296198 ∷ 239555298 ∷ 240351105
            ∷ 8216077638906376331 ∷ 8216077638907680169 ∷ [];
        store = 165570635 ∷ 165561560 ∷ 165577505 ∷ 165588914 ∷ [];
        last = 684476 ∷ [];
      };
      queries = 0 ∷ [];
      number = 13;
      place = Some 1;
      round = None;
      reads = 0;
    } ∷
    record {
      run = record {
        k = 3;
        rate = 1;
        step = 1;
        offset = 211;
        basis = 1 ∷ 1858076378458151939 ∷ 2 ∷ [];
        challenges = 176 ∷ 75 ∷ 7 ∷ [];
        word =
            242196612 ∷ 242975841 ∷ 801140328721500450 ∷ 801140328722296198 ∷ 239555298 ∷ 240351105
            ∷ 8216077638906376331 ∷ 8216077638907680169 ∷ [];
        store = 165570635 ∷ 165561560 ∷ 165577505 ∷ 165588914 ∷ [];
        last = 684476 ∷ [];
      };
      queries = 0 ∷ [];
      number = 13;
      place = Some 2;
      round = None;
      reads = 0;
    } ∷
    record {
      run = record {
        k = 3;
        rate = 1;
        step = 1;
        offset = 211;
        basis = 1 ∷ 1858076378458151939 ∷ 2 ∷ [];
        challenges = 176 ∷ 75 ∷ [];
        word =
            242196612 ∷ 242975841 ∷ 801140328721500450 ∷ 801140328722296198 ∷ 239555298 ∷ 240351105
            ∷ 8216077638906376331 ∷ [];
        store = 165570635 ∷ 165561560 ∷ 165577505 ∷ 165588914 ∷ [];
        last = 684476 ∷ [];
      };
      queries = 0 ∷ [];
      number = 13;
      place = Some 3;
      round = None;
      reads = 0;
    } ∷
    record {
      run = record {
        k = 3;
        rate = 1;
        step = 1;
        offset = 211;
        basis = 1 ∷ 1858076378458151939 ∷ 2 ∷ [];
        challenges = 176 ∷ 75 ∷ [];
        word =
            242196612 ∷ 242975841 ∷ 801140328721500450 ∷ 801140328722296198 ∷ 239555298 ∷ 240351105
            ∷ 8216077638906376331 ∷ 8216077638907680169 ∷ [];
        store = 165570635 ∷ 165561560 ∷ 165577505 ∷ [];
        last = 684476 ∷ [];
      };
      queries = 0 ∷ [];
      number = 13;
      place = Some 4;
      round = None;
      reads = 0;
    } ∷
    record {
      run = record {
        k = 3;
        rate = 1;
        step = 1;
        offset = 211;
        basis = 1 ∷ 1858076378458151939 ∷ 2 ∷ [];
        challenges = 176 ∷ 75 ∷ [];
        word =
            242196612 ∷ 242975841 ∷ 801140328721500450 ∷ 801140328722296198 ∷ 239555298 ∷ 240351105
            ∷ 8216077638906376331 ∷ 8216077638907680169 ∷ [];
        store = 165570635 ∷ 165561560 ∷ 165577505 ∷ 165588914 ∷ [];
        last = [];
      };
      queries = 0 ∷ [];
      number = 13;
      place = Some 5;
      round = None;
      reads = 0;
    } ∷
    record {
      run = record {
        k = 4;
        rate = 1;
        step = 2;
        offset = 151;
        basis = 0 ∷ 0 ∷ 0 ∷ 0 ∷ [];
        challenges = 190 ∷ [];
        word =
            63119223610302367 ∷ 63554709977008203 ∷ 16901469257581586770 ∷ 16901974832438607170 ∷ 64141001862543331
            ∷ 63661462555399515 ∷ 2032012095240773209 ∷ 2031928404354349085 ∷ 65259811995315319 ∷ 64788870359386299
            ∷ 2544158820856072795 ∷ 2544356383592861859 ∷ 64238485613239211 ∷ 64682933731846475 ∷ 11605383483528333586
            ∷ 11605616310090154750 ∷ [];
        store = 0 ∷ [];
        last = 476847087 ∷ [];
      };
      queries = 16 ∷ [];
      number = 13;
      place = Some 4;
      round = None;
      reads = 0;
    } ∷
    record {
      run = record {
        k = 3;
        rate = 1;
        step = 1;
        offset = 183;
        basis = 1 ∷ 1858076378458151939 ∷ 1858076378458151938 ∷ [];
        challenges = 1 ∷ 68 ∷ [];
        word =
            197809930 ∷ 198933097 ∷ 15515498339606848924 ∷ 15515498339607824574 ∷ 199811264 ∷ 200920101
            ∷ 12558701525368805785 ∷ 12558701525369795901 ∷ [];
        store = 881552 ∷ 881574 ∷ 881444 ∷ 881426 ∷ [];
        last = 3428 ∷ [];
      };
      queries = [];
      number = 8;
      place = Some 2;
      round = None;
      reads = 0;
    } ∷
    record {
      run = record {
        k = 4;
        rate = 1;
        step = 3;
        offset = 19;
        basis = 1 ∷ 1 ∷ 11637837820279650196 ∷ 0 ∷ [];
        challenges = 70 ∷ [];
        word =
            33925849005 ∷ 32661390132 ∷ 8040545314230484610 ∷ 8040545313502503430 ∷ 12139659771643845678
            ∷ 7670846005688608165 ∷ 3752829453857231457 ∷ 17733019687468919693 ∷ 30275907769 ∷ 31967447098
            ∷ 16366791397754277300 ∷ 16366791398249673342 ∷ 13799074395878856741 ∷ 10085544520714812462
            ∷ 2901659674465557016 ∷ 2032214536642738464 ∷ [];
        store = [];
        last = 551498716389672 ∷ [];
      };
      queries = 16 ∷ [];
      number = 8;
      place = Some 1;
      round = None;
      reads = 0;
    } ∷
    record {
      run = record {
        k = 2;
        rate = 1;
        step = 1;
        offset = 106;
        basis = 1 ∷ 2 ∷ [];
        challenges = 229 ∷ [];
        word = 2525 ∷ 2528 ∷ 2471 ∷ 2458 ∷ [];
        store = [];
        last = 5639 ∷ [];
      };
      queries = [];
      number = 9;
      place = None;
      round = None;
      reads = 0;
    } ∷
    record {
      run = record {
        k = 2;
        rate = 1;
        step = 1;
        offset = 106;
        basis = 1 ∷ 2 ∷ [];
        challenges = 229 ∷ [];
        word = 2525 ∷ 2528 ∷ 2471 ∷ 2458 ∷ [];
        store = [];
        last = 5638 ∷ [];
      };
      queries =
          4 ∷ 4 ∷ 4 ∷ 4 ∷ 4 ∷ 4 ∷ 4 ∷ 4 ∷ 4 ∷ 4 ∷ 4 ∷ 4 ∷ 4 ∷ 4 ∷ 4 ∷ 4 ∷ 4 ∷ 4 ∷ 4 ∷ 4 ∷ 4 ∷ 4 ∷ 4 ∷ 4 ∷ 4 ∷ 4 ∷ 4
          ∷ 4 ∷ 4 ∷ 4 ∷ 4 ∷ 4 ∷ 4 ∷ 4 ∷ 4 ∷ 4 ∷ 4 ∷ 4 ∷ 4 ∷ 4 ∷ 4 ∷ 4 ∷ 4 ∷ 4 ∷ 4 ∷ 4 ∷ 4 ∷ 4 ∷ 4 ∷ 4 ∷ 4 ∷ 4 ∷ 4 ∷ 4
          ∷ 4 ∷ 4 ∷ 4 ∷ 4 ∷ 4 ∷ 4 ∷ 4 ∷ 4 ∷ 4 ∷ 4 ∷ 4 ∷ 4 ∷ 4 ∷ 4 ∷ 4 ∷ 4 ∷ 4 ∷ 4 ∷ 4 ∷ 4 ∷ 4 ∷ 4 ∷ 4 ∷ 4 ∷ 4 ∷ 4 ∷ 4
          ∷ 4 ∷ 4 ∷ 4 ∷ 4 ∷ 4 ∷ 4 ∷ 4 ∷ 4 ∷ 4 ∷ 4 ∷ 4 ∷ 4 ∷ 4 ∷ 4 ∷ 4 ∷ 4 ∷ 4 ∷ 4 ∷ 4 ∷ 4 ∷ 4 ∷ 4 ∷ 4 ∷ 4 ∷ 4 ∷ 4 ∷ 4
          ∷ 4 ∷ 4 ∷ 4 ∷ 4 ∷ 4 ∷ 4 ∷ 4 ∷ 4 ∷ 4 ∷ 4 ∷ 4 ∷ 4 ∷ 4 ∷ 4 ∷ 4 ∷ 4 ∷ 4 ∷ 4 ∷ 4 ∷ 4 ∷ 4 ∷ 4 ∷ 4 ∷ 4 ∷ 4 ∷ 4 ∷ 4
          ∷ 4 ∷ 4 ∷ 4 ∷ 4 ∷ 4 ∷ 4 ∷ 4 ∷ 4 ∷ 4 ∷ 4 ∷ 4 ∷ 4 ∷ 4 ∷ 4 ∷ 4 ∷ 4 ∷ 4 ∷ 4 ∷ 4 ∷ 4 ∷ 4 ∷ 4 ∷ 4 ∷ 4 ∷ 4 ∷ 4 ∷ 4
          ∷ 4 ∷ 4 ∷ 4 ∷ 4 ∷ 4 ∷ 4 ∷ 4 ∷ 4 ∷ 4 ∷ 4 ∷ 4 ∷ 4 ∷ 4 ∷ 4 ∷ 4 ∷ 4 ∷ 4 ∷ 4 ∷ 4 ∷ 4 ∷ 4 ∷ 4 ∷ 4 ∷ 4 ∷ 4 ∷ 4 ∷ 4
          ∷ 4 ∷ 4 ∷ 4 ∷ 4 ∷ 4 ∷ 4 ∷ 4 ∷ 4 ∷ 4 ∷ 4 ∷ 4 ∷ 4 ∷ 4 ∷ 4 ∷ 4 ∷ 4 ∷ 4 ∷ 4 ∷ 4 ∷ 4 ∷ 4 ∷ 4 ∷ 4 ∷ 4 ∷ 4 ∷ 4 ∷ 4
          ∷ 4 ∷ 4 ∷ 4 ∷ 4 ∷ 4 ∷ 4 ∷ 4 ∷ 4 ∷ 4 ∷ 4 ∷ 4 ∷ 4 ∷ 4 ∷ 4 ∷ 4 ∷ 4 ∷ 4 ∷ 4 ∷ 4 ∷ 4 ∷ 4 ∷ 4 ∷ 4 ∷ 4 ∷ 4 ∷ 4 ∷ 4
          ∷ 4 ∷ 4 ∷ 4 ∷ 4 ∷ 4 ∷ 4 ∷ 4 ∷ 4 ∷ 4 ∷ 4 ∷ 4 ∷ 4 ∷ 4 ∷ 4 ∷ [];
      number = 9;
      place = None;
      round = None;
      reads = 0;
    } ∷
    record {
      run = record {
        k = 2;
        rate = 1;
        step = 1;
        offset = 106;
        basis = 1 ∷ 2 ∷ [];
        challenges = 229 ∷ [];
        word = 2525 ∷ 2528 ∷ 2471 ∷ 2458 ∷ [];
        store = [];
        last = 5639 ∷ [];
      };
      queries = 0 ∷ 3 ∷ 4 ∷ 5 ∷ [];
      number = 10;
      place = Some 2;
      round = None;
      reads = 0;
    } ∷
    record {
      run = record {
        k = 2;
        rate = 1;
        step = 1;
        offset = 106;
        basis = 1 ∷ 2 ∷ [];
        challenges = 229 ∷ [];
        word = 2525 ∷ 2528 ∷ 2471 ∷ 2458 ∷ [];
        store = [];
        last = 5638 ∷ [];
      };
      queries = 0 ∷ 1 ∷ 4 ∷ [];
      number = 10;
      place = Some 2;
      round = None;
      reads = 0;
    } ∷
    record {
      run = record {
        k = 2;
        rate = 1;
        step = 1;
        offset = 106;
        basis = 1 ∷ 2 ∷ [];
        challenges = 229 ∷ [];
        word = 2525 ∷ 2528 ∷ 2471 ∷ 2458 ∷ [];
        store = [];
        last = 5638 ∷ [];
      };
      queries = 18446744073709551615 ∷ 1 ∷ 0 ∷ [];
      number = 10;
      place = Some 0;
      round = None;
      reads = 0;
    } ∷
    record {
      run = record {
        k = 2;
        rate = 1;
        step = 1;
        offset = 2;
        basis = 1 ∷ 2 ∷ [];
        challenges = 22 ∷ [];
        word = 31 ∷ 21 ∷ 11 ∷ 1 ∷ [];
        store = [];
        last = 151 ∷ [];
      };
      queries = 3 ∷ 3 ∷ [];
      number = 17;
      place = Some 1;
      round = None;
      reads = 0;
    } ∷
    record {
      run = record {
        k = 2;
        rate = 1;
        step = 1;
        offset = 2;
        basis = 1 ∷ 2 ∷ [];
        challenges = 22 ∷ [];
        word = 31 ∷ 21 ∷ 11 ∷ 1 ∷ [];
        store = [];
        last = 150 ∷ [];
      };
      queries = 1 ∷ 2 ∷ 0 ∷ [];
      number = 17;
      place = Some 2;
      round = None;
      reads = 0;
    } ∷
    record {
      run = record {
        k = 2;
        rate = 1;
        step = 1;
        offset = 2;
        basis = 1 ∷ 2 ∷ [];
        challenges = 22 ∷ [];
        word = 31 ∷ 21 ∷ 11 ∷ 1 ∷ [];
        store = [];
        last = 150 ∷ [];
      };
      queries = 0 ∷ 3 ∷ 2 ∷ 1 ∷ [];
      number = 17;
      place = Some 2;
      round = None;
      reads = 0;
    } ∷
    record {
      run = record {
        k = 3;
        rate = 1;
        step = 2;
        offset = 74;
        basis = 1 ∷ 1858076378458151938 ∷ 2 ∷ [];
        challenges = 10 ∷ [];
        word =
            54896433 ∷ 55137173 ∷ 9688378837997946569 ∷ 9688378837998203554 ∷ 56423041 ∷ 55575687
            ∷ 18029816131015339463 ∷ 18029816131015547662 ∷ [];
        store = [];
        last = 117937 ∷ [];
      };
      queries = 3 ∷ 4 ∷ 0 ∷ [];
      number = 17;
      place = Some 2;
      round = None;
      reads = 0;
    } ∷
    record {
      run = record {
        k = 4;
        rate = 1;
        step = 3;
        offset = 15;
        basis = 1 ∷ 1858076378458151939 ∷ 13279093613986655126 ∷ 2 ∷ [];
        challenges = 65 ∷ [];
        word =
            415336422 ∷ 442922030 ∷ 7527001703246134792 ∷ 7527001703268262093 ∷ 17365478821670303088
            ∷ 9920235139679047929 ∷ 10945473866463621099 ∷ 17200216517480540156 ∷ 483600026 ∷ 507762366
            ∷ 10370071087822180362 ∷ 10370071087863678261 ∷ 7279090897269488446 ∷ 11367352234935453138
            ∷ 15730801824569683701 ∷ 2489220457519625617 ∷ [];
        store = [];
        last = 649795711378658 ∷ [];
      };
      queries = 8 ∷ 7 ∷ 15 ∷ [];
      number = 17;
      place = Some 2;
      round = None;
      reads = 0;
    } ∷
    []

abbrev pub proved_well : List ProvedSample
proved_well =
    record {
      run = record {
        k = 4;
        rate = 1;
        step = 1;
        offset = 226;
        basis = 1 ∷ 1858076378458151938 ∷ 13279093613986655127 ∷ 16568903688902243998 ∷ [];
        challenges = 41 ∷ 85 ∷ 99 ∷ [];
        word =
            95282961117641692 ∷ 94873324901707624 ∷ 26772361409263335 ∷ 26054920300260121 ∷ 7863591178664153639
            ∷ 7451381928518527126 ∷ 8823551506664777975 ∷ 8086841725402553304 ∷ 13887492072740248337
            ∷ 14533826335997837946 ∷ 17771153507867389352 ∷ 10589726711939763200 ∷ 15096380607731431999
            ∷ 17028136259295641989 ∷ 9497704163634965231 ∷ 15239844534792972610 ∷ [];
        store = 101 ∷ 102 ∷ 103 ∷ 104 ∷ 105 ∷ 106 ∷ 107 ∷ 108 ∷ 109 ∷ 110 ∷ 111 ∷ 112 ∷ [];
        last = 201 ∷ [];
      };
      number = 0;
      place = None;
      store =
          31478196432164000 ∷ 31477460159256300 ∷ 3224070253589737132 ∷ 3224070482624360555 ∷ 9608351324427147180
          ∷ 8924285477556514158 ∷ 10458535652445244205 ∷ 8046516393476975972 ∷ 121211050846516 ∷ 121211051205819
          ∷ 17291655384362920711 ∷ 17291655384362821256 ∷ [];
      last = 24673227 ∷ [];
    } ∷
    []

abbrev pub proved_at_high_degree : List ProvedSample
proved_at_high_degree =
    record {
      run = record {
        k = 3;
        rate = 1;
        step = 1;
        offset = 30;
        basis = 1 ∷ 1858076378458151938 ∷ 13279093613986655127 ∷ [];
        challenges = 155 ∷ 190 ∷ [];
        word =
            8757763 ∷ 8717282 ∷ 6405603295127112996 ∷ 6405603295127088192 ∷ 13646108950999169280 ∷ 2816461406371214810
            ∷ 10990684422828400411 ∷ 211777141351912260 ∷ [];
        store = 101 ∷ 102 ∷ 103 ∷ 104 ∷ [];
        last = 201 ∷ [];
      };
      number = 12;
      place = Some 1;
      store = 14120166 ∷ 14105411 ∷ 15619219892089641882 ∷ 15619219892089623615 ∷ [];
      last = 201 ∷ [];
    } ∷
    []

abbrev pub proved_refused : List ProvedSample
proved_refused =
    record {
      run = record {
        k = 1;
        rate = 7;
        step = 0;
        offset = 191;
        basis = 1 ∷ 1858076378458151939 ∷ 11637837820279650196 ∷ [];
        challenges = 163 ∷ 190 ∷ [];
        word =
            441345028 ∷ 443555737 ∷ 14966611560498993917 ∷ 14966611560501502356 ∷ 6901644026880152044
            ∷ 828689395037576001 ∷ 11447168497333391549 ∷ 14599274888035506916 ∷ [];
        store = 101 ∷ 102 ∷ 103 ∷ 104 ∷ [];
        last = 201 ∷ [];
      };
      number = 4;
      place = None;
      store = 101 ∷ 102 ∷ 103 ∷ 104 ∷ [];
      last = 201 ∷ [];
    } ∷
    record {
      run = record {
        k = 21;
        rate = 1;
        step = 1;
        offset = 191;
        basis = 1 ∷ 1858076378458151939 ∷ 11637837820279650196 ∷ [];
        challenges = 163 ∷ 190 ∷ [];
        word =
            441345028 ∷ 443555737 ∷ 14966611560498993917 ∷ 14966611560501502356 ∷ 6901644026880152044
            ∷ 828689395037576001 ∷ 11447168497333391549 ∷ 14599274888035506916 ∷ [];
        store = 101 ∷ 102 ∷ 103 ∷ 104 ∷ [];
        last = 201 ∷ [];
      };
      number = 4;
      place = None;
      store = 101 ∷ 102 ∷ 103 ∷ 104 ∷ [];
      last = 201 ∷ [];
    } ∷
    record {
      run = record {
        k = 2;
        rate = 0;
        step = 4;
        offset = 191;
        basis = 1 ∷ 1858076378458151939 ∷ 11637837820279650196 ∷ [];
        challenges = 163 ∷ 190 ∷ [];
        word =
            441345028 ∷ 443555737 ∷ 14966611560498993917 ∷ 14966611560501502356 ∷ 6901644026880152044
            ∷ 828689395037576001 ∷ 11447168497333391549 ∷ 14599274888035506916 ∷ [];
        store = 101 ∷ 102 ∷ 103 ∷ 104 ∷ [];
        last = 201 ∷ [];
      };
      number = 5;
      place = None;
      store = 101 ∷ 102 ∷ 103 ∷ 104 ∷ [];
      last = 201 ∷ [];
    } ∷
    record {
      run = record {
        k = 2;
        rate = 6;
        step = 4;
        offset = 191;
        basis = 1 ∷ 1858076378458151939 ∷ 11637837820279650196 ∷ [];
        challenges = 163 ∷ 190 ∷ [];
        word =
            441345028 ∷ 443555737 ∷ 14966611560498993917 ∷ 14966611560501502356 ∷ 6901644026880152044
            ∷ 828689395037576001 ∷ 11447168497333391549 ∷ 14599274888035506916 ∷ [];
        store = 101 ∷ 102 ∷ 103 ∷ 104 ∷ [];
        last = 201 ∷ [];
      };
      number = 6;
      place = None;
      store = 101 ∷ 102 ∷ 103 ∷ 104 ∷ [];
      last = 201 ∷ [];
    } ∷
    record {
      run = record {
        k = 4;
        rate = 2;
        step = 3;
        offset = 191;
        basis = 1 ∷ 1858076378458151939 ∷ 11637837820279650196 ∷ [];
        challenges = 163 ∷ 190 ∷ [];
        word =
            441345028 ∷ 443555737 ∷ 14966611560498993917 ∷ 14966611560501502356 ∷ 6901644026880152044
            ∷ 828689395037576001 ∷ 11447168497333391549 ∷ 14599274888035506916 ∷ [];
        store = 101 ∷ 102 ∷ 103 ∷ 104 ∷ [];
        last = 201 ∷ [];
      };
      number = 7;
      place = None;
      store = 101 ∷ 102 ∷ 103 ∷ 104 ∷ [];
      last = 201 ∷ [];
    } ∷
    record {
      run = record {
        k = 3;
        rate = 1;
        step = 1;
        offset = 4;
        basis = 1 ∷ 1858076378458151939 ∷ 13279093613986655126 ∷ 7 ∷ [];
        challenges = 169 ∷ 181 ∷ [];
        word =
            15797 ∷ 12682 ∷ 8686978435587494159 ∷ 8686978435587497408 ∷ 5789871517824829582 ∷ 7150189212186609017
            ∷ 11564963071910053134 ∷ 10600438811313489929 ∷ [];
        store = 101 ∷ 102 ∷ 103 ∷ 104 ∷ [];
        last = 201 ∷ [];
      };
      number = 13;
      place = Some 1;
      store = 101 ∷ 102 ∷ 103 ∷ 104 ∷ [];
      last = 201 ∷ [];
    } ∷
    record {
      run = record {
        k = 3;
        rate = 1;
        step = 1;
        offset = 4;
        basis = 1 ∷ 1858076378458151939 ∷ 13279093613986655126 ∷ [];
        challenges = 169 ∷ 181 ∷ 7 ∷ [];
        word =
            15797 ∷ 12682 ∷ 8686978435587494159 ∷ 8686978435587497408 ∷ 5789871517824829582 ∷ 7150189212186609017
            ∷ 11564963071910053134 ∷ 10600438811313489929 ∷ [];
        store = 101 ∷ 102 ∷ 103 ∷ 104 ∷ [];
        last = 201 ∷ [];
      };
      number = 13;
      place = Some 2;
      store = 101 ∷ 102 ∷ 103 ∷ 104 ∷ [];
      last = 201 ∷ [];
    } ∷
    record {
      run = record {
        k = 3;
        rate = 1;
        step = 1;
        offset = 4;
        basis = 1 ∷ 1858076378458151939 ∷ 13279093613986655126 ∷ [];
        challenges = 169 ∷ 181 ∷ [];
        word =
            15797 ∷ 12682 ∷ 8686978435587494159 ∷ 8686978435587497408 ∷ 5789871517824829582 ∷ 7150189212186609017
            ∷ 11564963071910053134 ∷ [];
        store = 101 ∷ 102 ∷ 103 ∷ 104 ∷ [];
        last = 201 ∷ [];
      };
      number = 13;
      place = Some 3;
      store = 101 ∷ 102 ∷ 103 ∷ 104 ∷ [];
      last = 201 ∷ [];
    } ∷
    record {
      run = record {
        k = 3;
        rate = 1;
        step = 1;
        offset = 4;
        basis = 1 ∷ 1858076378458151939 ∷ 13279093613986655126 ∷ [];
        challenges = 169 ∷ 181 ∷ [];
        word =
            15797 ∷ 12682 ∷ 8686978435587494159 ∷ 8686978435587497408 ∷ 5789871517824829582 ∷ 7150189212186609017
            ∷ 11564963071910053134 ∷ 10600438811313489929 ∷ [];
        store = 101 ∷ 102 ∷ 103 ∷ [];
        last = 201 ∷ [];
      };
      number = 13;
      place = Some 4;
      store = 101 ∷ 102 ∷ 103 ∷ [];
      last = 201 ∷ [];
    } ∷
    record {
      run = record {
        k = 3;
        rate = 1;
        step = 1;
        offset = 4;
        basis = 1 ∷ 1858076378458151939 ∷ 13279093613986655126 ∷ [];
        challenges = 169 ∷ 181 ∷ [];
        word =
            15797 ∷ 12682 ∷ 8686978435587494159 ∷ 8686978435587497408 ∷ 5789871517824829582 ∷ 7150189212186609017
            ∷ 11564963071910053134 ∷ 10600438811313489929 ∷ [];
        store = 101 ∷ 102 ∷ 103 ∷ 104 ∷ [];
        last = [];
      };
      number = 13;
      place = Some 5;
      store = 101 ∷ 102 ∷ 103 ∷ 104 ∷ [];
      last = [];
    } ∷
    record {
      run = record {
        k = 3;
        rate = 1;
        step = 1;
        offset = 52;
        basis = 1 ∷ 1 ∷ 0 ∷ [];
        challenges = 151 ∷ 163 ∷ [];
        word =
            2882692 ∷ 2770506 ∷ 120371322542520887 ∷ 120371322542604424 ∷ 13698859630185281971 ∷ 8083129006362976243
            ∷ 6227652221293814959 ∷ 10978715908333748894 ∷ [];
        store = 101 ∷ 102 ∷ 103 ∷ 104 ∷ [];
        last = 201 ∷ [];
      };
      number = 8;
      place = Some 1;
      store = 101 ∷ 102 ∷ 103 ∷ 104 ∷ [];
      last = 201 ∷ [];
    } ∷
    []
