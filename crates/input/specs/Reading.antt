-- How far reading the input has come, and what is printed of it. Assumes nothing.
use Rattle.std.specs.Prelude.{◌≡◌, cond, ◌||◌, List, [], ◌∷◌, ◌++◌, ℕ, ◌+◌, ◌≤◌, eqb, length, take, Option, Some, None}
use Rattle.std.specs.declared.ops.ControlFlow.{ControlFlow}
use Rattle.std.specs.declared.ops.ControlFlow.TheVariants.{Continue, Break}

-- after count of size bytes a read gave so many more, or failed: none more is the end of the input, and at size there
-- is no more room
abbrev pub read_after : (count : ℕ) (got : Option ℕ) (size : ℕ) → Option (ControlFlow ℕ ℕ)
read_after count None size = None
read_after count (Some more) size =
    Some (cond (eqb more 0 || eqb (count + more) size) (Break (count + more)) (Continue (count + more)))

-- reading is over: it failed, or no more bytes were read than there is room for
abbrev pub Over : (size : ℕ) (reading : Option ℕ) → Type 0
Over size (Some count) = count ≤ size
Over size None = Unit {0}

-- what the list holds of a reader whose bytes are known: all of them, or as many as there is room for. Of standard
-- input no contract of the kit says which bytes it gives, so that any may be what some input comes to. A reader whose
-- bytes are known may fail too
abbrev pub Filled : (known : Option (List ℕ)) (reading : Option ℕ) (list : List ℕ) → Type 0
Filled known None list = Unit {0}
Filled None (Some count) list = Unit {0}
Filled (Some input) (Some count) list = take count list ≡ take (length list) input

-- what reading comes to by what is known after a read: it failed, it is done, or it goes on
abbrev pub ComesTo : (reading : Option ℕ) (later : ℕ → Type 0) (known : Option (ControlFlow ℕ ℕ)) → Type 0
ComesTo reading later None = reading ≡ None
ComesTo reading later (Some (Break whole)) = reading ≡ Some whole
ComesTo reading later (Some (Continue next)) = later next

-- it comes to this where, after count bytes, reads of a source, one after the other, give so many bytes each, or fail
unfoldable pub Reads : {S : Type 0} (Gave : S → Option ℕ → S → Type 0) (size : ℕ) (reading : Option ℕ)
    → (gots : List (Option ℕ)) (count : ℕ) (source : S) → Type 0
Reads Gave size reading [] count source = ⊥
Reads {S} Gave size reading (got ∷ gots) count source =
    (left : S) × (Gave source got left
    × ComesTo reading (λ next. Reads Gave size reading gots next left) (read_after count got size))

-- so a reading is what reads of the source gave: nothing only where one failed, and so many bytes only where none did
abbrev pub ReadBy : {S : Type 0} (Gave : S → Option ℕ → S → Type 0) (size : ℕ) (reading : Option ℕ) (source : S)
    → Type 0
ReadBy Gave size reading source = (gots : List (Option ℕ)) × Reads Gave size reading gots 0 source

-- what a program prints where reading is over: its text of the whole input, whatever follows the bytes that were read,
-- if these are as many as the list has room for; nothing where a read failed
abbrev pub Prints : (text : List ℕ → List ℕ) (reading : Option ℕ) (list printed : List ℕ) → Type 0
Prints text (Some count) list printed =
    (input : List ℕ) → take count list ≡ take (length list) input → printed ≡ text input
Prints text None list printed = printed ≡ []

-- so it is the text of the bytes that were read, which are such an input themselves
abbrev pub PrintsOfRead : Type 0
PrintsOfRead =
    (text : List ℕ → List ℕ) (count : ℕ) (list printed : List ℕ) → Prints text (Some count) list printed
    → printed ≡ text (take count list)

-- and, where the list is full, the text of every input that begins with it
abbrev pub PrintsOfWhole : Type 0
PrintsOfWhole =
    (text : List ℕ → List ℕ) (list rest printed : List ℕ) → Prints text (Some (length list)) list printed
    → printed ≡ text (list ++ rest)
