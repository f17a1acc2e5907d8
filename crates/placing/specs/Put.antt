-- What a function leaves that puts a text at a cursor.
use Rattle.std.specs.Prelude.{◌≡◌, List, ◌++◌, ℕ, ◌+◌, ◌≤◌, length, take, drop}
use Rattle.placing.specs.declared.Cursor.{Cursor}

-- the lent list and how long it is, the place, what stands before it and what from it on
pub record Page : Type 0 where
  pub list : ℕ
  pub size : ℕ
  pub at : ℕ
  pub before : List ℕ
  pub after : List ℕ

abbrev pub page : (cursor : Cursor) → Page
page cursor =
    let bytes = cursor.out.now in
    record {
      list = cursor.out.ghost_name;
      size = length bytes;
      at = cursor.at;
      before = take cursor.at bytes;
      after = drop cursor.at bytes;
    }

-- the same list with a text at the place, which is now its end; before and after it is what was held
abbrev pub with_text : (held : Page) (text : List ℕ) → Page
with_text held text =
    record {
      list = held.list;
      size = held.size;
      at = held.at + length text;
      before = held.before ++ text;
      after = drop (length text) held.after;
    }

-- a text is put at a cursor, where there was room for it
pub record Puts (old : Cursor) (text : List ℕ) (new : Cursor) : Type 0 where
  pub page : page new ≡ with_text (page old) text
  pub room : new.at ≤ length new.out.now

-- there is room for so many bytes
abbrev pub HasRoom : (cursor : Cursor) (size : ℕ) → Type 0
HasRoom cursor size = cursor.at + size ≤ length cursor.out.now
