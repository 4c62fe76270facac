-- How a table is coded as data: as its fields.
use Rattle.std.specs.Prelude.{ℕ, ℤ, List, refl}
use Rattle.std.specs.Coded.{Coded, code_by, coded×, coded_ℕ, coded_ℤ, coded_list}
use Rattle.std.specs.Ordering.{int_cmp}
use Rattle.std.specs.FinMap as map
use Rattle.std.specs.FinMap.{FinMap}
use Rattle.book_model.specs.Book.{Row, Table}

-- by a code of its rows
abbrev pub table_code : Coded Row → Coded Table
table_code row =
    code_by (List (List ℕ) × (ℤ × FinMap int_cmp Row)) (coded× (coded_list (coded_list coded_ℕ)) (coded× coded_ℤ (map.code coded_ℤ row)))
    (λ t. (t.columns, (t.entry, t.rows))) (λ p. record { columns = p.0; entry = p.1.0; rows = p.1.1 }) (λ _. refl)
