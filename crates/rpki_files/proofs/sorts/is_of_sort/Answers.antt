use Rattle.rpki_files.proofs.sorts.is_of_sort.Goals as goal

pub returns-in-Base64 : goal.returns-in-Base64
returns-in-Base64 c = rw c.in-Base64.is (rw c.as_slice-in-Base64.ensures at c.is_bare_base64.ensures)

pub returns-in-UnendedPem : goal.returns-in-UnendedPem
returns-in-UnendedPem c = rw c.in-UnendedPem.is (rw c.as_slice-in-UnendedPem.ensures at c.is_unended_pem.ensures)

pub returns-in-DamagedPem : goal.returns-in-DamagedPem
returns-in-DamagedPem c = rw c.in-DamagedPem.is (rw c.as_slice-in-DamagedPem.ensures at c.is_damaged_pem.ensures)
