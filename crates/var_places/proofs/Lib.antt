mod FileNames
