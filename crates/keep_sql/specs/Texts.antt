-- The texts of the three statements: the table is made, its row is put in place, and is found.
use Rattle.std.specs.Prelude.{ℕ, List, codes}

abbrev pub make_text : List ℕ
make_text = codes "CREATE TABLE IF NOT EXISTS kept (place INTEGER PRIMARY KEY NOT NULL, iteration INTEGER NOT NULL, body BLOB NOT NULL) STRICT"

abbrev pub put_text : List ℕ
put_text = codes "INSERT INTO kept (place, iteration, body) VALUES (0, ?1, ?2) ON CONFLICT (place) DO UPDATE SET iteration = excluded.iteration, body = excluded.body"

abbrev pub get_text : List ℕ
get_text = codes "SELECT iteration, body FROM kept WHERE place = 0"
