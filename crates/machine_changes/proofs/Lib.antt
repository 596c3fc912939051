mod KeptFaults
