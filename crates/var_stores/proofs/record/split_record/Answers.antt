use Rattle.std.proofs.Common.{◌+◌, ◌++◌, ◌<◌, length, sym, ap, subst, ◌∙◌, refl}
use Rattle.var_stores.specs.Record.{padding_len}
use Rattle.var_stores.proofs.Records.{header_found, record_found, cut_in_name, cut_in_value, cut_in_padding}
use Rattle.var_stores.proofs.record.split_record.Goals as goal

pub returns-in_err-name-clause-cut : goal.returns-in_err-name-clause-cut
returns-in_err-name-clause-cut c = λ none.
    let start = c.in_ok-_start.ensures.found in
    let header = c.in_ok-header.ensures.found in
    let has = header_found c.args.bytes.now _ _ _ _ _ _ c.requires start.0 start.1 c.in_ok-state.ensures.cases.0 header.0 header.1 in
    cut_in_name c.args.bytes.now _ _ _ c.requires has (subst (λ n. length c.in_ok-header.after.now < n)
    c.name_len-name_len.ensures.len (c.in_err-name.ensures.few refl))

pub returns-in_err-value-clause-cut : goal.returns-in_err-value-clause-cut
returns-in_err-value-clause-cut c = λ none.
    let start = c.in_ok-_start.ensures.found in
    let header = c.in_ok-header.ensures.found in
    let name = c.in_ok-name.ensures.found in
    let has = header_found c.args.bytes.now _ _ _ _ _ _ c.requires start.0 start.1 c.in_ok-state.ensures.cases.0 header.0 header.1 in
    cut_in_value c.args.bytes.now _ _ _ c.requires has _ _ (name.0 ∙ c.name_len-name_len.ensures.len) name.1
    (subst (λ n. length c.in_ok-name.after.now < n) c.value_len-value_len.ensures.len (c.in_err-value.ensures.few refl))

pub returns-in_err-padding-clause-cut : goal.returns-in_err-padding-clause-cut
returns-in_err-padding-clause-cut c = λ none.
    let start = c.in_ok-_start.ensures.found in
    let header = c.in_ok-header.ensures.found in
    let name = c.in_ok-name.ensures.found in
    let value = c.in_ok-value.ensures.found in
    let has = header_found c.args.bytes.now _ _ _ _ _ _ c.requires start.0 start.1 c.in_ok-state.ensures.cases.0 header.0 header.1 in
    cut_in_padding c.args.bytes.now _ _ _ c.requires has _ _ _ (name.0 ∙ c.name_len-name_len.ensures.len)
    (value.0 ∙ c.value_len-value_len.ensures.len) (name.1 ∙ ap (λ t. c.in_ok-name.name.now ++ t) value.1)
    (subst (λ n. length c.in_ok-value.after.now < n) (c.padding_len.ensures
    ∙ ap (λ n. padding_len (n + c.value_len-value_len.result)) (sym name.0)
    ∙ ap (λ n. padding_len (length c.in_ok-name.name.now + n)) (sym value.0)) (c.in_err-padding.ensures.few refl))

pub returns-clause-found : goal.returns-clause-found
returns-clause-found c =
    let start = c.in_ok-_start.ensures.found in
    let header = c.in_ok-header.ensures.found in
    let name = c.in_ok-name.ensures.found in
    let value = c.in_ok-value.ensures.found in
    let padding = c.in_ok-padding.ensures.found in
    let has = header_found c.args.bytes.now _ _ _ _ _ _ c.requires start.0 start.1 c.in_ok-state.ensures.cases.0 header.0 header.1 in
    record_found c.args.bytes.now _ _ _ _ _ _ _ _ _ has (name.0 ∙ c.name_len-name_len.ensures.len) name.1 (value.0 ∙ c.value_len-value_len.ensures.len) value.1
    (padding.0 ∙ c.padding_len.ensures ∙ ap (λ n. padding_len (n + c.value_len-value_len.result)) (sym name.0)
    ∙ ap (λ n. padding_len (length c.in_ok-name.name.now + n)) (sym value.0)) padding.1
