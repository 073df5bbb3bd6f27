-- How a statement or a body is seen that holds a list.
use Rattle.std.proofs.Common.{◌≡◌, Option, Vec, Global, refl, ap, sym, ◌∙◌}
use Rattle.spl_parser.specs.declared.raw.RawStatement as raw_statement
use Rattle.spl_parser.specs.declared.raw.RawKind as raw_kind
use Rattle.spl_parser.specs.declared.raw.RawKind.TheBlock as rows
use Rattle.spl_parser.specs.declared.raw.RawBody as raw_body
use Rattle.spl_parser.specs.declared.raw.RawKind.TheViews as seen
use Rattle.st_reading.specs.declared.looking.RawName.{RawName}
use Rattle.spl_parser.specs.ProgramTree.{stated, followed, block, select, cooperate, group, beside, label_view, action_view, row_view, body_row_view, body_view, body, statements, statement_views, bodies, body_views}

row_statements : {n : _} (row : raw_kind.Row_of-RawStatement n) → row_view row ≡ statements (statement_views (raw_kind.items-the_row-RawStatement n row))
row_statements raw_kind.end_of-RawStatement = refl
row_statements (raw_kind.more_of-RawStatement l place k rest) = ap (followed (stated (label_view l) place (action_view k))) (row_statements rest)

row_bodies : {n : _} (row : raw_kind.Row_of-RawBody n) → body_row_view row ≡ bodies (body_views (raw_kind.items-the_row-RawBody n row))
row_bodies raw_kind.end_of-RawBody = refl
row_bodies (raw_kind.more_of-RawBody b rest) = ap (beside (body_view b)) (row_bodies rest)

pub vector_statements : (v : Vec raw_statement.RawStatement Global) → row_view (rows.hidden-the_row-RawStatement-0 v) ≡ statements (statement_views v.items)
vector_statements v = row_statements (rows.hidden-the_row-RawStatement-0 v) ∙ ap (λ xs. statements (statement_views xs)) (raw_kind.items_hidden-the_row-RawStatement-0 v)

vector_bodies : (v : Vec raw_body.RawBody Global) → body_row_view (rows.hidden-the_row-RawBody-1 v) ≡ bodies (body_views v.items)
vector_bodies v = row_bodies (rows.hidden-the_row-RawBody-1 v) ∙ ap (λ xs. bodies (body_views xs)) (raw_kind.items_hidden-the_row-RawBody-1 v)

pub view_block : (v : Vec raw_statement.RawStatement Global) → action_view (raw_kind.Block v) ≡ block (statements (statement_views v.items))
view_block v = ap block (vector_statements v)

pub view_select : (v : Vec raw_statement.RawStatement Global) → action_view (raw_kind.Select v) ≡ select (statements (statement_views v.items))
view_select v = ap select (vector_statements v)

pub view_group : (v : Vec raw_statement.RawStatement Global) → action_view (raw_kind.Group v) ≡ group (statements (statement_views v.items))
view_group v = ap group (vector_statements v)

pub view_cooperate : (v : Vec raw_body.RawBody Global) → action_view (raw_kind.Cooperate v) ≡ cooperate (bodies (body_views v.items))
view_cooperate v = ap cooperate (vector_bodies v)

pub view_body : (b : raw_body.RawBody) → body_view b ≡ body (statements (statement_views (raw_body.out-RawBody b).statements.items)) (label_view (raw_body.out-RawBody b).end)
unfolding raw_body.out-RawBody denote.Hole.Carrier.out rows.shown-the_row-RawStatement-0
view_body (raw_body.RawBody' h row end) = ap (λ z. body z (label_view end)) (row_statements row ∙ ap (λ xs. statements (statement_views xs)) (sym (rows.items_shown-the_row-RawStatement-0 h row)))

-- what the arms of a match on a statement, and what a body, are to contracts
pub ruleset actions = (view_block, view_select, view_cooperate, view_group)

pub ruleset whole_bodies = (view_body)

-- a body that is put together
pub view_made_body : (v : Vec raw_statement.RawStatement Global) (end : Option RawName) → body_view (seen.roll-RawBody (record { statements = v; end = end })) ≡ body (statements (statement_views v.items)) (label_view end)
unfolding raw_body.roll-RawBody denote.Hole.Carrier.roll
view_made_body v end = ap (λ z. body z (label_view end)) (vector_statements v)
